-- What is above a touched path is touched too: pages of what is below a directory, and the batch.
use Rattle.std.proofs.Common.{◌≡◌, ◌⊎◌, inl, inr, ℕ, zero, suc, Bool, true, false, ◌&&◌, List, [], ◌∷◌, ◌++◌, map, take, Option, Some, None, is_some, Result, Ok, Err, sym, subst, ◌∙◌}
use Rattle.std.proofs.lemmas.Bool.{false≢true, cases_Bool}
use Rattle.acl_text.specs.declared.acl.AclPair.{AclPair}
use Rattle.path_text.specs.Paths.{is_prefix}
use Rattle.path_text.proofs.LawLemmas.{stands_before}
use Rattle.namespace_model.specs.declared.code.Code.{Code}
use Rattle.namespace_model.specs.declared.op.BatchChange.{BatchChange}
use Rattle.namespace_model.specs.declared.request.Entry.{Entry}
use Rattle.namespace_model.specs.Nodes.{Node}
use Rattle.namespace_model.specs.Trees.{Path, Tree, at, node_at, keys_where, is_child, IsLaid}
use Rattle.namespace_model.specs.Effects.{Put}
use Rattle.namespace_model.specs.Refusals.{caller_of}
use Rattle.namespace_model.specs.Pages.{on_the_way, is_above, above}
use Rattle.namespace_model.specs.SetAccessRecursive.{Batch, Failure, batch_of, with_turn, turn_of}
use Rattle.namespace_model.specs.Locality.{Among}
use Rattle.namespace_model.proofs.Lookups.{keys_among, among_keys}
use Rattle.namespace_model.proofs.Prefixes.{both, together, child_name, front_of_append}
use Rattle.namespace_model.proofs.PageOrder.{Before, before_both, between, Ascends, keys_ascend, among_filter, among_take}
use Rattle.namespace_model.proofs.PageLooks.{is_over, over_test, above_keys, front_trans, IsListing}
use Rattle.namespace_model.proofs.ClosedSteps.{Rooted, Also, parent_within, there_above, parent_is}

-- ---- the first paths of a list

pub among_above : (token : Option Path) (q : Path) (xs : List Path) → Among q (above token xs) → Among q xs
among_above None q xs k = k
among_above (Some token) q xs k = (among_filter (is_above token) q xs k).1

-- whatever stands before one of the first paths is one of them
pub take_before : (n : ℕ) (xs : List Path) (q o : Path) → Ascends xs → Among q (take n xs) → Among o xs → Before o q → Among o (take n xs)
take_before zero xs q o up k j b = absurd k
take_before (suc n) [] q o up k j b = absurd k
take_before (suc n) (x ∷ xs) q o up (inl e) (inl f) b = inl f
take_before (suc n) (x ∷ xs) q o up (inl e) (inr j) b = absurd (before_both x o (up.0 o j) (subst (λ p. Before o p) e b))
take_before (suc n) (x ∷ xs) q o up (inr k) (inl f) b = inl f
take_before (suc n) (x ∷ xs) q o up (inr k) (inr j) b = inr (take_before n xs q o up.1 k j b)

-- ---- what is listed

-- children of a directory that was seen
pub children_rooted : (S : Path → Type 0) (d : Path) (ps : List Path) → S d → ((q : Path) → Among q ps → is_child d q ≡ true) → Rooted S ps
children_rooted S d ps s listed q k =
    let name = child_name d q (listed q k) in
    inr (inl (subst S (sym (parent_is q d name.0 name.1)) s))

-- a list has each of its paths from another one, with all that stands before that path there
pub record IsFront (ps xs : List Path) : Type 0 where
  pub inside : (q : Path) → Among q ps → Among q xs
  pub before : (q o : Path) → Among q ps → Among o xs → Before o q → Among o ps

pub take_is_front : (n : ℕ) (xs : List Path) → Ascends xs → IsFront (take n xs) xs
take_is_front n xs up = record {
  inside = λ q k. among_take n q xs k;
  before = λ q o k j b. take_before n xs q o up k j b;
}

module _ (t : Tree) (laid : IsLaid t) (d : Path) (test : Path → Bool) (listing : IsListing d test) (S : Path → Type 0) (here : S d) where
  -- what is on the way to a token hangs on the directory
  pub on_the_way_rooted : (token : Option Path) → Rooted S (on_the_way t test token)
  on_the_way_rooted None q k = absurd k
  on_the_way_rooted (Some token) q k =
      let is = keys_among t (λ p. test p && is_prefix p token) q k in
      let parts = both _ _ is.0 in
      elim (parent_within d q (listing.inside q parts.0)) [
        | inl e ↦ inl (subst S (sym e) here)
        | inr h ↦
            let above = parent_is q h.0 h.1 h.2 in
            let passes : test (h.0 ++ h.1 ∷ []) ≡ true = subst (λ p. test p ≡ true) h.2 parts.0 in
            elim (listing.upwards h.0 [] h.1 h.3 passes) [
              | inl up ↦
                  let front : is_prefix h.0 q ≡ true = subst (λ p. is_prefix h.0 p ≡ true) (sym h.2) (front_of_append h.0 (h.1 ∷ [])) in
                  inr (inr (subst (λ p. Among p (on_the_way t test (Some token))) (sym above)
                  (among_keys t (λ p. test p && is_prefix p token) h.0 (there_above t laid q h.0 h.1 h.2 is.1) (together up (front_trans h.0 q token front parts.1)))))
              | inr same ↦ inr (inl (subst S (sym (above ∙ same)) here))
            ]
      ]

  -- A path that isn't over the token, with one over it below, is on the way to the token.
  under_token : (token : Option Path) (o : Path) (n : List ℕ) → is_over token o ≡ false → is_over token (o ++ n ∷ []) ≡ true → test o ≡ true → is_some (at t o) ≡ true → Among o (on_the_way t test token)
  under_token None o n low high passes there = absurd (false≢true (sym low))
  under_token (Some token) o n low high passes there = among_keys t (λ q. test q && is_prefix q token) o there (together passes (between o (n ∷ []) token low high))

  -- what stands at the front of a listing hangs on the directory and on the way to the token
  pub front_rooted : (token : Option Path) (ps : List Path) → IsFront ps (keys_where t (over_test test token)) → Rooted (Also S (on_the_way t test token)) ps
  front_rooted token ps is_front q k =
      let is = keys_among t (over_test test token) q (is_front.inside q k) in
      let parts = both _ _ is.0 in
      elim (parent_within d q (listing.inside q parts.0)) [
        | inl e ↦ inl (inl (subst S (sym e) here))
        | inr h ↦
            let above = parent_is q h.0 h.1 h.2 in
            let there = there_above t laid q h.0 h.1 h.2 is.1 in
            elim (listing.upwards h.0 [] h.1 h.3 (subst (λ p. test p ≡ true) h.2 parts.0)) [
              | inl up ↦ elim (cases_Bool (is_over token h.0)) [
                | inl high ↦
                    inr (inr (subst (λ p. Among p ps) (sym above)
                    (is_front.before q h.0 k (among_keys t (over_test test token) h.0 there (together up high)) (subst (λ p. Before h.0 p) (sym h.2) (stands_before h.0 [] h.1)))))
                | inr low ↦
                    inr (inl (inr (subst (λ p. Among p (on_the_way t test token)) (sym above)
                    (under_token token h.0 h.1 low (subst (λ p. is_over token p ≡ true) h.2 parts.1) up there))))
              ]
              | inr same ↦ inr (inl (inl (subst S (sym (above ∙ same)) here)))
            ]
      ]

  -- the first paths behind a token
  pub page_rooted : (token : Option Path) (max : ℕ) → Rooted (Also S (on_the_way t test token)) (take max (above token (keys_where t test)))
  page_rooted token max =
      subst (λ (ps : List Path). Rooted (Also S (on_the_way t test token)) (take max ps)) (sym (above_keys t test token))
      (front_rooted token (take max (keys_where t (over_test test token))) (take_is_front max (keys_where t (over_test test token)) (keys_ascend t (over_test test token))))

-- ---- the batch

-- the paths that failed, and those that were changed
abbrev pub batch_paths : Batch → List Path
batch_paths b = map (λ (f : Failure). f.path) b.failed ++ map (λ (x : Path × Put). x.0) b.changed

-- a path at the place between two lists
between_lists : (p q : Path) (fs cs : List Path) → Among q (fs ++ p ∷ cs) → (q ≡ p) ⊎ Among q (fs ++ cs)
between_lists p q [] cs h = h
between_lists p q (f ∷ fs) cs (inl e) = inr (inl e)
between_lists p q (f ∷ fs) cs (inr k) = elim (between_lists p q fs cs k) [ inl e ↦ inl e | inr j ↦ inr (inr j) ]

put_between : (p q : Path) (fs cs : List Path) → (q ≡ p) ⊎ Among q (fs ++ cs) → Among q (fs ++ p ∷ cs)
put_between p q [] cs h = h
put_between p q (f ∷ fs) cs (inl e) = inr (put_between p q fs cs (inl e))
put_between p q (f ∷ fs) cs (inr (inl e)) = inl e
put_between p q (f ∷ fs) cs (inr (inr k)) = inr (put_between p q fs cs (inr k))

front_inside : (p : Path) (ys ps : List Path) → IsFront ys ps → (q : Path) → (q ≡ p) ⊎ Among q ys → (q ≡ p) ⊎ Among q ps
front_inside p ys ps is q (inl e) = inl e
front_inside p ys ps is q (inr k) = inr (is.inside q k)

front_before : (p : Path) (ys ps : List Path) → Ascends (p ∷ ps) → IsFront ys ps → (q o : Path) → (q ≡ p) ⊎ Among q ys → (o ≡ p) ⊎ Among o ps → Before o q → (o ≡ p) ⊎ Among o ys
front_before p ys ps up is q o k (inl e) b = inl e
front_before p ys ps up is q o (inl f) (inr j) b = absurd (before_both p o (up.0 o j) (subst (λ r. Before o r) f b))
front_before p ys ps up is q o (inr k) (inr j) b = inr (is.before q o k j b)

-- one path more at the front
front_more : (p : Path) (ys ps : List Path) → Ascends (p ∷ ps) → IsFront ys ps → IsFront (p ∷ ys) (p ∷ ps)
front_more p ys ps up is = record {
  inside = front_inside p ys ps is;
  before = front_before p ys ps up is;
}

front_one : (p : Path) (ps : List Path) → Ascends (p ∷ ps) → IsFront (p ∷ []) (p ∷ ps)
front_one p ps up = front_more p [] ps up (record { inside = λ q k. absurd k; before = λ q o k j b. absurd k })

with_turn_front : (e : Entry) (force : Bool) (p : Path) (x : Node) (turn : Result AclPair Code) (rest : Batch) (ps : List Path) → Ascends (p ∷ ps)
    → IsFront (batch_paths rest) ps → IsFront (batch_paths (with_turn e force p x turn rest)) (p ∷ ps)
with_turn_front e force p x (Ok pair) rest ps up is =
    let fs = map (λ (f : Failure). f.path) rest.failed in
    let cs = map (λ (y : Path × Put). y.0) rest.changed in
    let more = front_more p (batch_paths rest) ps up is in
    record {
      inside = λ q k. more.inside q (between_lists p q fs cs k);
      before = λ q o k j b. put_between p o fs cs (more.before q o (between_lists p q fs cs k) j b);
    }
with_turn_front e true p x (Err c) rest ps up is = front_more p (batch_paths rest) ps up is
with_turn_front e false p x (Err c) rest ps up is = front_one p ps up

-- what a batch changes or fails stands at the front of its page
pub batch_is_front : (t : Tree) (e : Entry) (change : BatchChange) (force : Bool) (ps : List Path) → Ascends ps → IsFront (batch_paths (batch_of t e change force ps)) ps
batch_is_front t e change force [] up = record { inside = λ q k. absurd k; before = λ q o k j b. absurd k }
batch_is_front t e change force (p ∷ ps) up =
    with_turn_front e force p (node_at t p) (turn_of (caller_of e) change (node_at t p)) (batch_of t e change force ps) ps up (batch_is_front t e change force ps up.1)

pub front_of_front : (ys ps xs : List Path) → IsFront ys ps → IsFront ps xs → IsFront ys xs
front_of_front ys ps xs one two = record {
  inside = λ q k. two.inside q (one.inside q k);
  before = λ q o k j b. one.before q o k (two.before q o (one.inside q k) j b) b;
}

pub take_ascends : (n : ℕ) (xs : List Path) → Ascends xs → Ascends (take n xs)
take_ascends zero xs up = tt
take_ascends (suc n) [] up = tt
take_ascends (suc n) (x ∷ xs) up = (λ q k. up.0 q (among_take n q xs k), take_ascends n xs up.1)
