-- The trees after steps on a filesystem: alike there, and as before elsewhere.
use Rattle.std.proofs.Common.{◌≡◌, inl, inr, ℕ, Bool, true, false, cond, not, List, [], ◌∷◌, ◌++◌, map, Option, Some, None, is_some, IfSome, option_map, refl, ap, sym, subst, ◌∙◌}
use Rattle.std.proofs.lemmas.Bool.{false≢true, cases_Bool}
use Rattle.std.specs.Ordering.{eq_by_cmp}
use Rattle.path_text.specs.Paths.{path_cmp, is_prefix}
use Rattle.namespace_model.specs.declared.request.Entry.{Entry}
use Rattle.namespace_model.specs.declared.op.Op.TheVariants as op
use Rattle.namespace_model.specs.Nodes.{Node}
use Rattle.namespace_model.specs.Trees.{Path, Tree, at, IsTree}
use Rattle.namespace_model.specs.Effects.{Put, Effect, put_by, take_all, put_all, moved_by, renamed, effected}
use Rattle.namespace_model.specs.Outcomes.{Outcome}
use Rattle.namespace_model.specs.Locality.{Among}
use Rattle.namespace_model.specs.Shapes.{CanMove}
use Rattle.namespace_model.specs.Sound.{IsSound, IsOperation}
use Rattle.namespace_model.specs.Step.{step, outcome}
use Rattle.namespace_model.specs.Apart.{IsIn, IsOn, AgreeOn, AlikeOn, AskNoNumber, SameButNumbers, unnumbered, is_listing}
use Rattle.namespace_model.proofs.Lookups.{path_tells}
use Rattle.namespace_model.proofs.Effected.{is_in, in_tells, put_or, put_at, at-take_all, at-put_all, at-renamed_to, at-renamed_from, at-renamed_other}
use Rattle.namespace_model.proofs.TreeKept.{apart_below}
use Rattle.namespace_model.proofs.Prefixes.{behind_front}
use Rattle.namespace_model.proofs.StepShapes.{outcome_shaped}
use Rattle.namespace_model.proofs.ApartViews.{unnumbered_puts, unnumbered_put, unnumbered_outcome, shown, LiesIn, Sees, in_below}
use Rattle.namespace_model.proofs.ApartWords.{outcome_like}
use Rattle.head_text.specs.Conditions.{no_conditions}
use Rattle.std.specs.Prelude.{length, take, slice_get}

-- ---- elsewhere

module _ (gs : List ℕ) (q : Path) (out : ¬ IsIn gs q) where
  taken_not : (ps : List Path) → ((p : Path) → Among p ps → IsIn gs p) → is_in q ps ≡ false
  taken_not ps h = elim (in_tells q ps) [ inl j ↦ absurd (out (h q j)) | inr j ↦ j ]

  put_not : (xs : List (Path × Put)) → ((p : Path) → Among p (map (λ (x : Path × Put). x.0) xs) → IsIn gs p) → put_at q xs ≡ None
  put_not [] h = refl
  put_not (x ∷ xs) h = elim (path_tells q x.0) [
    | inl same ↦ absurd (out (h q (inl same)))
    | inr differs ↦ ap (λ b. cond b (Some x.1) (put_at q xs)) differs ∙ put_not xs (λ p j. h p (inr j))
  ]

  front_not : (a : Path) → IsIn gs a → is_prefix a q ≡ false
  front_not a h = elim (cases_Bool (is_prefix a q)) [ inl j ↦ absurd (out (in_below gs a q h j)) | inr j ↦ j ]

  moved_not : (t : Tree) (move : Option (Path × Path)) → IfSome move (λ m. IsIn gs m.0 × IsIn gs m.1) → at (moved_by move t) q ≡ at t q
  moved_not t None h = refl
  moved_not t (Some m) h = at-renamed_other t m.0 m.1 q (front_not m.1 h.1) (front_not m.0 h.0)

  -- what is not in the filesystem stays
  pub effected_elsewhere : (t : Tree) (number : ℕ) (e : Effect) → LiesIn gs e → at (effected number e t) q ≡ at t q
  effected_elsewhere t number e lies =
      moved_not (put_all number e.puts (take_all e.taken t)) e.move lies.move
      ∙ at-put_all number e.puts (take_all e.taken t) q
      ∙ ap (λ found. put_or number found (at (take_all e.taken t) q)) (put_not e.puts lies.puts)
      ∙ at-take_all e.taken t q
      ∙ ap (λ b. cond b None (at t q)) (taken_not e.taken lies.taken)

-- ---- in the filesystem

-- where nothing is put the node that was there, without its number
bare_put_or : Option Put → Option Node → Option Node
bare_put_or None o = option_map unnumbered o
bare_put_or (Some put) o = Some put.node

put_by_bare : (number : ℕ) (put : Put) → unnumbered (put_by number put) ≡ unnumbered put.node
put_by_bare number put = by_stamp put.stamped
  where
    by_stamp : (b : Bool) → unnumbered (cond b (record put.node { number = number }) put.node) ≡ unnumbered put.node
    by_stamp true = refl
    by_stamp false = refl

put_bare : (number : ℕ) (q : Path) (xs : List (Path × Put)) (o : Option Node) → option_map unnumbered (put_or number (put_at q xs) o) ≡ bare_put_or (put_at q (unnumbered_puts xs)) o
unfolding bare_put_or
put_bare number q [] o = refl
put_bare number q (x ∷ xs) o = by_place (eq_by_cmp path_cmp q x.0) (put_bare number q xs o)
  where
    by_place : (b : Bool) → option_map unnumbered (put_or number (put_at q xs) o) ≡ bare_put_or (put_at q (unnumbered_puts xs)) o
        → option_map unnumbered (put_or number (cond b (Some x.1) (put_at q xs)) o) ≡ bare_put_or (cond b (Some (unnumbered_put x.1)) (put_at q (unnumbered_puts xs))) o
    by_place true h = ap Some (put_by_bare number x.1)
    by_place false h = h

taken_bare : (b : Bool) (o : Option Node) → option_map unnumbered (cond b None o) ≡ cond b None (option_map unnumbered o)
taken_bare true o = refl
taken_bare false o = refl

bare_by : (found : Option Put) (o u : Option Node) → option_map unnumbered o ≡ option_map unnumbered u → bare_put_or found o ≡ bare_put_or found u
unfolding bare_put_or
bare_by None o u h = h
bare_by (Some put) o u h = refl

module _ (fs : List ℕ) (s t : Tree) (n m : ℕ) where
  abbrev BareAt : Tree → Tree → Type 0
  BareAt u v = (q : Path) → Sees fs q → option_map unnumbered (at u q) ≡ option_map unnumbered (at v q)

  put_after : (taken : List Path) (xs ys : List (Path × Put)) → unnumbered_puts xs ≡ unnumbered_puts ys → BareAt s t → BareAt (put_all n xs (take_all taken s)) (put_all m ys (take_all taken t))
  put_after taken xs ys same h q k =
      ap (option_map unnumbered) (at-put_all n xs (take_all taken s) q) ∙ put_bare n q xs (at (take_all taken s) q)
      ∙ bare_by (put_at q (unnumbered_puts xs)) (at (take_all taken s) q) (at (take_all taken t) q)
      (ap (option_map unnumbered) (at-take_all taken s q) ∙ taken_bare (is_in q taken) (at s q) ∙ ap (λ o. cond (is_in q taken) None o) (h q k)
      ∙ sym (taken_bare (is_in q taken) (at t q)) ∙ ap (option_map unnumbered) (sym (at-take_all taken t q)))
      ∙ ap (λ zs. bare_put_or (put_at q zs) (at (take_all taken t) q)) same
      ∙ sym (put_bare m q ys (at (take_all taken t) q)) ∙ ap (option_map unnumbered) (sym (at-put_all m ys (take_all taken t) q))

  seen_below : (a r : Path) → IsIn fs a → Sees fs (a ++ r)
  seen_below [] r h = absurd h
  seen_below (k ∷ a) r h = h

  moved_after : (u v : Tree) (a b : Path) → is_prefix a b ≡ false → is_prefix b a ≡ false → IsIn fs a → IsIn fs b → BareAt u v → BareAt (renamed u a b) (renamed v a b)
  moved_after u v a b one two in_a in_b h q k = elim (cases_Bool (is_prefix b q)) [
    | inl under ↦
        let rest = behind_front b q under in
        subst (λ p. option_map unnumbered (at (renamed u a b) p) ≡ option_map unnumbered (at (renamed v a b) p)) (sym rest.1)
        (ap (option_map unnumbered) (at-renamed_to u a b rest.0 (apart_below a b rest.0 one two)) ∙ h (a ++ rest.0) (seen_below a rest.0 in_a)
        ∙ ap (option_map unnumbered) (sym (at-renamed_to v a b rest.0 (apart_below a b rest.0 one two))))
    | inr out ↦ elim (cases_Bool (is_prefix a q)) [
      | inl from ↦ ap (option_map unnumbered) (at-renamed_from u a b q out from ∙ sym (at-renamed_from v a b q out from))
      | inr other ↦ ap (option_map unnumbered) (at-renamed_other u a b q out other) ∙ h q k ∙ ap (option_map unnumbered) (sym (at-renamed_other v a b q out other))
    ]
  ]

  move_after : (u v : Tree) (fresh : List Path) (e : Effect) (move : Option (Path × Path)) → IfSome move (CanMove s fresh e) → IfSome move (λ x. IsIn fs x.0 × IsIn fs x.1) → BareAt u v → BareAt (moved_by move u) (moved_by move v)
  move_after u v fresh e None can lies h = h
  move_after u v fresh e (Some x) can lies h = moved_after u v x.0 x.1 can.source_apart can.destination_apart lies.0 lies.1 h

  effected_after : (fresh : List Path) (e f : Effect) → e.taken ≡ f.taken → unnumbered_puts e.puts ≡ unnumbered_puts f.puts → e.move ≡ f.move → IfSome e.move (CanMove s fresh e) → LiesIn fs e
      → BareAt s t → BareAt (effected n e s) (effected m f t)
  effected_after fresh e f taken puts move can lies h q k =
      move_after (put_all n e.puts (take_all e.taken s)) (put_all m f.puts (take_all e.taken t)) fresh e e.move can lies.move (put_after e.taken e.puts f.puts puts h) q k
      ∙ ap (λ ps. option_map unnumbered (at (moved_by e.move (put_all m f.puts (take_all ps t))) q)) taken
      ∙ ap (λ x. option_map unnumbered (at (moved_by x (put_all m f.puts (take_all f.taken t))) q)) move

-- the same, exactly
module _ (fs : List ℕ) (s t : Tree) (number : ℕ) where
  abbrev SameAt : Tree → Tree → Type 0
  SameAt u v = (q : Path) → Sees fs q → at u q ≡ at v q

  put_exactly : (taken : List Path) (xs : List (Path × Put)) → SameAt s t → SameAt (put_all number xs (take_all taken s)) (put_all number xs (take_all taken t))
  put_exactly taken xs h q k =
      at-put_all number xs (take_all taken s) q
      ∙ ap (put_or number (put_at q xs)) (at-take_all taken s q ∙ ap (λ o. cond (is_in q taken) None o) (h q k) ∙ sym (at-take_all taken t q))
      ∙ sym (at-put_all number xs (take_all taken t) q)

  below_seen : (a r : Path) → IsIn fs a → Sees fs (a ++ r)
  below_seen [] r h = absurd h
  below_seen (k ∷ a) r h = h

  moved_exactly : (u v : Tree) (a b : Path) → is_prefix a b ≡ false → is_prefix b a ≡ false → IsIn fs a → SameAt u v → SameAt (renamed u a b) (renamed v a b)
  moved_exactly u v a b one two in_a h q k = elim (cases_Bool (is_prefix b q)) [
    | inl under ↦
        let rest = behind_front b q under in
        subst (λ p. at (renamed u a b) p ≡ at (renamed v a b) p) (sym rest.1)
        (at-renamed_to u a b rest.0 (apart_below a b rest.0 one two) ∙ h (a ++ rest.0) (below_seen a rest.0 in_a) ∙ sym (at-renamed_to v a b rest.0 (apart_below a b rest.0 one two)))
    | inr out ↦ elim (cases_Bool (is_prefix a q)) [
      | inl from ↦ at-renamed_from u a b q out from ∙ sym (at-renamed_from v a b q out from)
      | inr other ↦ at-renamed_other u a b q out other ∙ h q k ∙ sym (at-renamed_other v a b q out other)
    ]
  ]

  move_exactly : (u v : Tree) (fresh : List Path) (e : Effect) (move : Option (Path × Path)) → IfSome move (CanMove s fresh e) → IfSome move (λ x. IsIn fs x.0 × IsIn fs x.1) → SameAt u v → SameAt (moved_by move u) (moved_by move v)
  move_exactly u v fresh e None can lies h = h
  move_exactly u v fresh e (Some x) can lies h = moved_exactly u v x.0 x.1 can.source_apart can.destination_apart lies.0 h

  effected_exactly : (fresh : List Path) (e : Effect) → IfSome e.move (CanMove s fresh e) → LiesIn fs e → SameAt s t → SameAt (effected number e s) (effected number e t)
  effected_exactly fresh e can lies h q k =
      move_exactly (put_all number e.puts (take_all e.taken s)) (put_all number e.puts (take_all e.taken t)) fresh e e.move can lies.move (put_exactly e.taken e.puts h) q k

-- ---- the law

agree_exactly : (fs : List ℕ) (s t : Tree) → AgreeOn fs s t → (q : Path) → Sees fs q → option_map (shown true) (at s q) ≡ option_map (shown true) (at t q)
agree_exactly fs s t h [] k = ap (option_map (shown true)) h.account
agree_exactly fs s t h (n ∷ p) k = subst (λ x. option_map (shown true) (at s (x ∷ p)) ≡ option_map (shown true) (at t (x ∷ p))) (sym k) (ap (option_map (shown true)) (h.inside p))

alike_seen : (fs : List ℕ) (s t : Tree) → AlikeOn fs s t → (q : Path) → Sees fs q → option_map (shown false) (at s q) ≡ option_map (shown false) (at t q)
alike_seen fs s t h [] k = h.account
alike_seen fs s t h (n ∷ p) k = subst (λ x. option_map (shown false) (at s (x ∷ p)) ≡ option_map (shown false) (at t (x ∷ p))) (sym k) (h.inside p)

-- exactly: nothing of another filesystem is seen
pub seen_alone : (fs : List ℕ) (s t : Tree) (e : Entry) → IsOn fs e.request.op → AgreeOn fs s t → outcome s e ≡ outcome t e
seen_alone fs s t e h agree = (outcome_like true true fs s t (agree_exactly fs s t agree) e (λ k. absurd (false≢true (sym k))) h (λ k. inl refl)).0

same_seen : (fs : List ℕ) (s t : Tree) → AgreeOn fs s t → (q : Path) → Sees fs q → at s q ≡ at t q
same_seen fs s t h [] k = h.account
same_seen fs s t h (n ∷ p) k = subst (λ x. at s (x ∷ p) ≡ at t (x ∷ p)) (sym k) (h.inside p)

lies_in : (fs : List ℕ) (t : Tree) (e : Entry) → IsOn fs e.request.op → LiesIn fs (outcome t e).effect
lies_in fs t e h = (outcome_like true true fs t t (λ p k. refl) e (λ k. absurd (false≢true (sym k))) h (λ k. inl refl)).1

pub agree_after : (fs : List ℕ) (s t : Tree) (e : Entry) (number : ℕ) → IsTree s → IsSound e.request → IsOn fs e.request.op → AgreeOn fs s t → AgreeOn fs (step s e number).tree (step t e number).tree
agree_after fs s t e number is sound h agree =
    let after = effected_exactly fs s t number (outcome s e).fresh (outcome s e).effect (outcome_shaped s is e sound).growth.moved (lies_in fs s e h) (same_seen fs s t agree) in
    let same = ap (λ (o : Outcome). effected number o.effect t) (seen_alone fs s t e h agree) in
    record {
      account = after [] tt ∙ ap (λ u. at u []) same;
      inside = λ p. after (fs ∷ p) refl ∙ ap (λ u. at u (fs ∷ p)) same;
    }

-- but for numbers
numberless : (fs : List ℕ) (s t : Tree) (e : Entry) → IsOn fs e.request.op → AskNoNumber e.request.cond → AlikeOn fs s t
    → (unnumbered_outcome (not (is_listing e.request.op)) (outcome s e) ≡ unnumbered_outcome (not (is_listing e.request.op)) (outcome t e)) × LiesIn fs (outcome s e).effect
numberless fs s t e h asks alike =
    outcome_like false (not (is_listing e.request.op)) fs s t (alike_seen fs s t alike) e (λ k. asks) h (λ k. inr (refl, ap not k))

body_by : (b : Bool) (x y : List ℕ) → cond (not b) x [] ≡ cond (not b) y [] → cond b [] x ≡ cond b [] y
body_by true x y h = refl
body_by false x y h = h

pub no_number_told : (fs : List ℕ) (s t : Tree) (e : Entry) → IsOn fs e.request.op → AskNoNumber e.request.cond → AlikeOn fs s t → SameButNumbers e.request.op (outcome s e).reply (outcome t e).reply
no_number_told fs s t e h asks alike =
    let same = (numberless fs s t e h asks alike).0 in
    record {
      status = ap (λ (o : Outcome). o.reply.status) same;
      code = ap (λ (o : Outcome). o.reply.code) same;
      denied = ap (λ (o : Outcome). o.reply.denied) same;
      fields = ap (λ (o : Outcome). o.reply.fields) same;
      body = body_by (is_listing e.request.op) (outcome s e).reply.body (outcome t e).reply.body (ap (λ (o : Outcome). o.reply.body) same);
    }

pub alike_after : (fs : List ℕ) (s t : Tree) (e : Entry) (n m : ℕ) → IsTree s → IsSound e.request → IsOn fs e.request.op → AskNoNumber e.request.cond → AlikeOn fs s t
    → AlikeOn fs (step s e n).tree (step t e m).tree
alike_after fs s t e n m is sound h asks alike =
    let both = numberless fs s t e h asks alike in
    let after = effected_after fs s t n m (outcome s e).fresh (outcome s e).effect (outcome t e).effect (ap (λ (o : Outcome). o.effect.taken) both.0) (ap (λ (o : Outcome). o.effect.puts) both.0)
    (ap (λ (o : Outcome). o.effect.move) both.0) (outcome_shaped s is e sound).growth.moved both.1 (alike_seen fs s t alike) in
    record { account = after [] tt; inside = λ p. after (fs ∷ p) refl }

-- nothing of another filesystem is changed
pub others_kept : (fs : List ℕ) (t : Tree) (e : Entry) (number : ℕ) → IsOn fs e.request.op → (q : Path) → ¬ IsIn fs q → at (step t e number).tree q ≡ at t q
others_kept fs t e number h q out =
    effected_elsewhere fs q out t number (outcome t e).effect (lies_in fs t e h)

-- a rename stays in its filesystem
pub moves_inside : (fs : List ℕ) (e : Entry) (path source : Path) (props : Option (List (List ℕ × List ℕ))) → IsSound e.request → e.request.op ≡ op.Rename path source props → IsIn fs path → IsIn fs source
moves_inside fs e path source props sound asked h = by_first path source (subst (λ o. IsOperation o (length e.request.body)) asked sound.operation).2.filesystem h
  where
    first_or : List ℕ → Path → List ℕ
    first_or none [] = none
    first_or none (n ∷ p) = n

    by_first : (p q : Path) → take 1 q ≡ take 1 p → IsIn fs p → IsIn fs q
    by_first [] q same k = absurd k
    by_first (n ∷ p) [] same k = absurd (false≢true (ap (λ l. is_some (slice_get l 0)) same))
    by_first (n ∷ p) (m ∷ q) same k = ap (first_or m) same ∙ k

-- a request without conditions asks for no number
pub no_number_asked : AskNoNumber no_conditions
no_number_asked n m moment = refl
