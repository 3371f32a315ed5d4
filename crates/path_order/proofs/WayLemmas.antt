-- The way to a token below a path: what is there of it, and the walk that begins behind it.
use Rattle.std.proofs.Common.{◌≡◌, inl, inr, ℕ, zero, suc, ◌+◌, ◌<◌, Bool, true, false, ◌&&◌, List, [], ◌∷◌, ◌++◌, length, take, drop, Some, None, is_some, refl, sym, ap, subst, ◌∙◌, append_assoc, append-nil, arith}
use Rattle.std.proofs.lemmas.Bool.{false≢true}
use Rattle.std.proofs.lemmas.Option.{same_Some}
use Rattle.std.proofs.Math.Nat.{mod-lt}
use Rattle.std.proofs.Math.Dec.{lit<}
use Rattle.std.proofs.Math.Seq.{take-suc}
use Rattle.std.specs.Prelude.{slice_index_or}
use Rattle.lock_core.specs.declared.object.LockMode.TheVariants.{Shared}
use Rattle.path_text.specs.Paths.{is_prefix}
use Rattle.namespace_model.specs.Locality.{Among}
use Rattle.namespace_model.specs.Pages.{on_the_way}
use Rattle.namespace_model.specs.Trees.{Path, Tree, at, is_below, IsLaid}
use Rattle.namespace_model.proofs.Alikeness.{nothing_below}
use Rattle.namespace_model.proofs.Effected.{drop_front}
use Rattle.namespace_model.proofs.Lookups.{among_keys, keys_among}
use Rattle.namespace_model.proofs.PageOrder.{Ascends, keys_ascend, ascending_same}
use Rattle.namespace_model.proofs.Prefixes.{together, both, front_of_append, below_names, behind_front}
use Rattle.inode_tree.specs.declared.need.Need.{Need}
use Rattle.inode_tree.specs.Inodes.{BareInode, node_of}
use Rattle.inode_tree.specs.Parts.{Parts, follow, child_of}
use Rattle.inode_tree.specs.Stands.{Stands}
use Rattle.inode_tree.specs.Views.{Held, Shown, Agrees, Grows, IsKnown, covers}
use Rattle.inode_tree.proofs.IndexLemmas.{index_from_stands}
use Rattle.path_walk.specs.Visits.{IsHeldAndShown, NeedsChild}
use Rattle.path_walk.proofs.TrailLemmas.{agreed, agrees_before}
use Rattle.path_order.specs.declared.begin.Start.{Start}
use Rattle.path_order.specs.declared.cursor.Level.{Level}
use Rattle.path_order.specs.declared.cursor.Seen.{Seen}
use Rattle.path_order.specs.Cursors.{Before, end_of, names_in, IsAt, AreAlong, IsLeft}
use Rattle.path_order.specs.PagesBelow.{IsNodeOf, AreNodesOf, AreHeld}
use Rattle.path_order.specs.Starts.{IsAtFor, IsLookAt, IsStart, NeedsOnTheWay}
use Rattle.path_order.proofs.NextPath.{front_there, front_first}
use Rattle.path_order.proofs.CursorLemmas.{end_is, end_more, along_more, below_more, names_lead, no_child_there}
use Rattle.path_order.proofs.PageLemmas.{nodes_more, held_more, held_grows, is_below_names, below_of}

-- ---- the fronts of a path below p

abbrev pub fronts : Path → Path → List Path
fronts p [] = []
fronts p (n ∷ names) = (p ++ n ∷ []) ∷ fronts (p ++ n ∷ []) names

pub fronts_more : (p front : Path) (n : List ℕ) → fronts p (front ++ n ∷ []) ≡ fronts p front ++ ((p ++ front) ++ n ∷ []) ∷ []
fronts_more p [] n = ap (λ q. (q ++ n ∷ []) ∷ []) (sym (append-nil p))
fronts_more p (m ∷ front) n =
    ap (λ l. (p ++ m ∷ []) ∷ l) (fronts_more (p ++ m ∷ []) front n ∙ ap (λ q. fronts (p ++ m ∷ []) front ++ (q ++ n ∷ []) ∷ []) (append_assoc p (m ∷ []) front))

-- q is one of them
pub record IsFront (p front q : Path) : Type 0 where
  pub name : List ℕ
  pub deeper : Path
  pub rest : Path
  pub is : q ≡ p ++ name ∷ deeper
  pub of : front ≡ name ∷ (deeper ++ rest)

pub front_among : (p front q : Path) → Among q (fronts p front) → IsFront p front q
front_among p [] q h = absurd h
front_among p (m ∷ front) q (inl e) = record { name = m; deeper = []; rest = front; is = e; of = refl }
front_among p (m ∷ front) q (inr h) =
    let more = front_among (p ++ m ∷ []) front q h in
    record { name = m; deeper = more.name ∷ more.deeper; rest = more.rest; is = more.is ∙ append_assoc p (m ∷ []) (more.name ∷ more.deeper); of = ap (λ l. m ∷ l) more.of }

pub fronts_ascend : (p front : Path) → Ascends (fronts p front)
fronts_ascend p [] = tt
fronts_ascend p (n ∷ front) = (
  λ q h. let f = front_among (p ++ n ∷ []) front q h in subst (λ r. Before (p ++ n ∷ []) r) (sym f.is) (front_first (p ++ n ∷ []) f.name f.deeper),
  fronts_ascend (p ++ n ∷ []) front,
)

-- the next of these names leads nowhere from q
abbrev pub LeadNowhere : Tree → Path → Path → Type 0
LeadNowhere t q [] = Unit {0}
LeadNowhere t q (m ∷ rest) = is_some (at t (q ++ m ∷ [])) ≡ false

head_of : List ℕ → Path → List ℕ
head_of d [] = d
head_of d (n ∷ q) = n

tail_of : Path → Path
tail_of [] = []
tail_of (n ∷ q) = q

heads : (n m : List ℕ) (p q : Path) → n ∷ p ≡ m ∷ q → n ≡ m
unfolding head_of
heads n m p q e = ap (head_of n) e

tails : (n m : List ℕ) (p q : Path) → n ∷ p ≡ m ∷ q → p ≡ q
unfolding tail_of
tails n m p q e = ap tail_of e

-- what is there on the way is one of the fronts, up to the name that leads nowhere
there_among : (t : Tree) → IsLaid t → (p front rest : Path) (n : List ℕ) (r s : Path) → front ++ rest ≡ n ∷ (r ++ s) → is_some (at t (p ++ n ∷ r)) ≡ true → LeadNowhere t (p ++ front) rest → Among (p ++ n ∷ r) (fronts p front)
there_among t laid p [] [] n r s e there nowhere = absurd (no_names e)
  where
    no_names : [] ≡ n ∷ (r ++ s) → ⊥
    no_names f = let h : length {A = List ℕ} [] ≡ length (n ∷ (r ++ s)) = ap (λ (l : Path). length l) f in omega arith
there_among t laid p [] (m ∷ rest) n r s e there nowhere =
    absurd (false≢true (sym (ap (λ q. is_some (at t (q ++ m ∷ []))) (sym (append-nil p)) ∙ nowhere)
    ∙ ap (λ k. is_some (at t (p ++ k ∷ []))) (heads m n rest (r ++ s) e) ∙ front_there t laid p n r there))
there_among t laid p (m ∷ front) rest n [] s e there nowhere = inl (ap (λ k. p ++ k ∷ []) (sym (heads m n (front ++ rest) s e)))
there_among t laid p (m ∷ front) rest n (k ∷ r) s e there nowhere =
    let same : m ≡ n = heads m n (front ++ rest) (k ∷ r ++ s) e in
    let is : p ++ n ∷ k ∷ r ≡ (p ++ m ∷ []) ++ k ∷ r = ap (λ j. p ++ j ∷ k ∷ r) (sym same) ∙ sym (append_assoc p (m ∷ []) (k ∷ r)) in
    inr (subst (λ q. Among q (fronts (p ++ m ∷ []) front)) (sym is)
    (there_among t laid (p ++ m ∷ []) front rest k r s (tails m n (front ++ rest) (k ∷ r ++ s) e) (ap (λ q. is_some (at t q)) (sym is) ∙ there)
    (subst (λ q. LeadNowhere t q rest) (sym (append_assoc p (m ∷ []) front)) nowhere)))

same_behind : (p a b : Path) → p ++ a ≡ p ++ b → a ≡ b
same_behind p a b e = sym (drop_front p a) ∙ ap (drop (length p)) e ∙ drop_front p b

-- the way to a token is the fronts that are there
pub way_is : (t : Tree) → IsLaid t → (p names front rest : Path) → names ≡ front ++ rest → ((q : Path) → Among q (fronts p front) → is_some (at t q) ≡ true) → LeadNowhere t (p ++ front) rest
    → on_the_way t (is_below p) (Some (p ++ names)) ≡ fronts p front
way_is t laid p names front rest split there nowhere =
    ascending_same (on_the_way t (is_below p) (Some (p ++ names))) (fronts p front) (keys_ascend t test) (fronts_ascend p front)
    (λ q. (
      λ h.
          let k = keys_among t test q h in
          let parts = both (is_below p q) (is_prefix q (p ++ names)) k.0 in
          let below = below_names p q parts.0 in
          let more = behind_front q (p ++ names) parts.1 in
          let is : names ≡ below.0 ∷ (below.1 ++ more.0) = same_behind p names (below.0 ∷ (below.1 ++ more.0)) (more.1 ∙ ap (λ r. r ++ more.0) below.2 ∙ append_assoc p (below.0 ∷ below.1) more.0) in
          subst (λ r. Among r (fronts p front)) (sym below.2) (there_among t laid p front rest below.0 below.1 more.0 (sym split ∙ is) (ap (λ r. is_some (at t r)) (sym below.2) ∙ k.1) nowhere),
      λ h.
          let f = front_among p front q h in
          let ends : p ++ names ≡ (p ++ f.name ∷ f.deeper) ++ (f.rest ++ rest) =
          ap (λ r. p ++ r) (split ∙ ap (λ r. r ++ rest) f.of ∙ ap (λ r. f.name ∷ r) (append_assoc f.deeper f.rest rest)) ∙ sym (append_assoc p (f.name ∷ f.deeper) (f.rest ++ rest)) in
          among_keys t test q (there q h)
          (together (ap (is_below p) f.is ∙ is_below_names p f.name f.deeper)
          (ap (λ r. is_prefix r (p ++ names)) f.is ∙ ap (is_prefix (p ++ f.name ∷ f.deeper)) ends ∙ front_of_append (p ++ f.name ∷ f.deeper) (f.rest ++ rest))),
    ))
  where
    test : Path → Bool
    test q = is_below p q && is_prefix q (p ++ names)

-- ---- the walk there

pub record IsGoing (held : Held) (shown : Shown) (p front : Path) (levels : List Level) (x : BareInode) (seen : List Seen) : Type 0 where
  pub names_are : names_in levels ≡ front
  pub is_on : (parts : Parts) (t : Tree) → Stands parts t → Agrees shown parts → AreAlong parts p levels × (((id : ℕ) × IsAt parts (end_of p levels) id x) × AreNodesOf parts t (fronts p front) seen)
  pub looked : AreHeld held shown seen

pub names_more : (ls : List Level) (l : Level) → names_in (ls ++ l ∷ []) ≡ names_in ls ++ l.name ∷ []
names_more [] l = refl
names_more (k ∷ ls) l = ap (λ ns. k.name ∷ ns) (names_more ls l)

nodes_there : (parts : Parts) (t : Tree) (paths : List Path) (seen : List Seen) (q : Path) → AreNodesOf parts t paths seen → Among q paths → is_some (at t q) ≡ true
nodes_there parts t [] [] q are h = absurd h
nodes_there parts t [] (s ∷ seen) q are h = absurd are
nodes_there parts t (r ∷ paths) [] q are h = absurd are
nodes_there parts t (r ∷ paths) (s ∷ seen) q are (inl e) = ap (λ k. is_some (at t k)) e ∙ ap is_some are.0.shows
nodes_there parts t (r ∷ paths) (s ∷ seen) q are (inr h) = nodes_there parts t paths seen q are.1 h

split_at : (names : Path) (i : ℕ) (n : List ℕ) → i < length names → (rest : Path) × (names ≡ take i names ++ slice_index_or names i n ∷ rest)
split_at [] i n h = absurd (omega arith)
split_at (m ∷ names) zero n h = (names, refl)
split_at (m ∷ names) (suc i) n h = let more = split_at names i n (omega arith) in (more.0, ap (λ l. m ∷ l) more.1)

take_names : (names : Path) (i : ℕ) → i ≡ length names → take i names ≡ names
take_names [] zero e = refl
take_names [] (suc i) e = refl
take_names (n ∷ names) zero e = absurd (omega arith)
take_names (n ∷ names) (suc i) e = ap (λ l. n ∷ l) (take_names names i (omega arith))

end_at : (held : Held) (shown : Shown) (p front : Path) (levels : List Level) (x : BareInode) (seen : List Seen) → IsGoing held shown p front levels x seen → end_of p levels ≡ p ++ front
end_at held shown p front levels x seen is = end_is p levels ∙ ap (λ ns. p ++ ns) is.names_are

pub level_is : (levels after : List Level) (x : BareInode) (name n : List ℕ) → after ≡ levels ++ record { node = x; name = name } ∷ [] → name ≡ n → after ≡ levels ++ record { node = x; name = n } ∷ []
level_is levels after x name n e same = e ∙ ap (λ m. levels ++ record { node = x; name = m } ∷ []) same

pub starts : (held : Held) (shown : Shown) (p : Path) (x : BareInode) (levels : List Level) (seen : List Seen) → levels ≡ [] → seen ≡ [] → IsAtFor shown p x → IsGoing held shown p [] levels x seen
starts held shown p x levels seen none nothing is =
    subst (λ ls. IsGoing held shown p [] ls x seen) (sym none)
    (subst (λ l. IsGoing held shown p [] [] x l) (sym nothing) (record {
      names_are = refl;
      is_on = λ parts t stands agrees. (tt, (is parts t stands agrees, tt));
      looked = tt;
    }))

-- all names lead on
pub arrives : (held : Held) (shown : Shown) (p names : Path) (i : ℕ) (levels : List Level) (x : BareInode) (s : Start) → i ≡ length names → IsGoing held shown p (take i names) levels x s.seen.items
    → s.cursor.levels.items ≡ levels → s.cursor.ahead ≡ Some x → IsStart held shown p names s
arrives held shown p names i levels x s all is same ahead =
    let whole : IsGoing held shown p names levels x s.seen.items = subst (λ ns. IsGoing held shown p ns levels x s.seen.items) (take_names names i all) is in
    let there = end_at held shown p names levels x s.seen.items whole in
    record {
      walk = λ parts t stands agrees.
          let on = whole.is_on parts t stands agrees in
          record {
            along = subst (λ ls. AreAlong parts p ls) (sym same) on.0;
            left = subst (λ o. IsLeft parts t (p ++ names) (end_of p s.cursor.levels.items) o) (sym ahead)
                (subst (λ ls. IsLeft parts t (p ++ names) (end_of p ls) (Some x)) (sym same) (sym there, on.1.0));
          };
      way = λ parts t stands agrees.
          let on = whole.is_on parts t stands agrees in
          subst (λ l. AreNodesOf parts t l s.seen.items)
          (sym (way_is t stands.tree.parents p names names [] (sym (append-nil names)) (λ q h. nodes_there parts t (fronts p names) s.seen.items q on.1.1 h) tt)) on.1.1;
      looked = whole.looked;
    }

pub going_as : {held later : Held} {shown : Shown} {p front : Path} {levels : List Level} {x : BareInode} {seen : List Seen} → later ≡ held → IsGoing held shown p front levels x seen → IsGoing later shown p front levels x seen
going_as {shown} {p} {front} {levels} {x} {seen} same is = subst (λ h. IsGoing h shown p front levels x seen) (sym same) is

module _ (now held : Held) (old new : Shown) (p names : Path) (i : ℕ) (n : List ℕ) (levels : List Level) (x : BareInode) (seen : List Seen) (same : now ≡ held) (grows : Grows old new) (within : i < length names) (item : n ≡ slice_index_or names i n)
    (is : IsGoing held old p (take i names) levels x seen) where
  abbrev front : Path
  front = take i names

  abbrev level : Level
  level = record { node = x; name = n }

  there : end_of p levels ≡ p ++ front
  there = end_at held old p front levels x seen is

  next_front : take (i + 1) names ≡ front ++ n ∷ []
  next_front = ap (λ k. take k names) (let h : i + 1 ≡ suc i = omega arith in h) ∙ take-suc names i n within ∙ ap (λ m. front ++ m ∷ []) (sym item)

  rest_of : (rest : Path) × (names ≡ front ++ n ∷ rest)
  rest_of = let more = split_at names i n within in (more.0, more.1 ∙ ap (λ m. front ++ m ∷ more.0) (sym item))

  pub going_known : (child : ℕ) → child_of x n ≡ Some child → IsKnown old child
  going_known child leads parts t stands agrees =
      let on = is.is_on parts t stands agrees in
      stands.found (end_of p levels ++ n ∷ []) child (sym (names_lead parts t stands (end_of p levels) on.1.0.0 x on.1.0.1 n) ∙ leads)

  -- the next name leads on
  pub goes_there : (s : Seen) (y : BareInode) (after : List Level) (more : List Seen) → IsLookAt now new x n (Some s) → y ≡ s.node → after ≡ levels ++ level ∷ [] → more ≡ seen ++ s ∷ [] → IsGoing held new p (take (i + 1) names) after y more
  goes_there s y after more look copied is_after is_more =
      subst (λ k. IsGoing held new p (take (i + 1) names) after k more) (sym copied)
      (subst (λ l. IsGoing held new p (take (i + 1) names) after s.node l) (sym is_more)
      (subst (λ ls. IsGoing held new p (take (i + 1) names) ls s.node (seen ++ s ∷ [])) (sym is_after)
      (subst (λ ns. IsGoing held new p ns (levels ++ level ∷ []) s.node (seen ++ s ∷ [])) (sym next_front) (record {
        names_are = names_more levels level ∙ ap (λ ns. ns ++ n ∷ []) is.names_are;
        is_on = λ parts t stands agrees.
            let on = is.is_on parts t stands (agrees_before old new parts grows agrees) in
            let leads : follow parts 0 (end_of p levels ++ n ∷ []) ≡ Some s.id.0 = sym (names_lead parts t stands (end_of p levels) on.1.0.0 x on.1.0.1 n) ∙ look.0 in
            let kept = agreed new parts s.id.0 s.node agrees look.1 in
            let place = (index_from_stands parts t stands).places (end_of p levels ++ n ∷ []) s.id.0 leads in (
              along_more parts p levels level on.1.0.0 on.0 on.1.0.1,
              (
                (s.id.0, subst (λ q. IsAt parts q s.id.0 s.node) (sym (end_more p levels level)) (record { leads = leads; there = kept })),
                subst (λ l. AreNodesOf parts t l (seen ++ s ∷ [])) (sym (fronts_more p front n))
                    (nodes_more parts t (fronts p front) seen ((p ++ front) ++ n ∷ []) s on.1.1
                    (subst (λ q. IsNodeOf parts t (q ++ n ∷ []) s) there (record {
                      leads = leads;
                      there = kept;
                      shows = place.shows ∙ ap (λ (z : BareInode). Some (node_of z)) (same_Some place.inode s.node (sym place.found ∙ kept));
                    }))),
              ),
            );
        looked = held_more held new seen s (held_grows held old new seen grows is.looked) (subst (λ h. IsHeldAndShown h new s.id.0) same look.2);
      }))))

  -- or it leads nowhere
  pub stops_there : (s : Start) → IsLookAt now new x n None → s.cursor.levels.items ≡ levels ++ level ∷ [] → s.cursor.ahead ≡ None → s.seen.items ≡ seen → IsStart held new p names s
  stops_there s look is_after ahead is_seen = record {
    walk = λ parts t stands agrees.
        let on = is.is_on parts t stands (agrees_before old new parts grows agrees) in
        let none = no_child_there parts t stands (end_of p levels) on.1.0.0 x on.1.0.1 n look in
        let ends : end_of p s.cursor.levels.items ≡ end_of p levels ++ n ∷ [] = ap (end_of p) is_after ∙ end_more p levels level in
        record {
          along = subst (λ ls. AreAlong parts p ls) (sym is_after) (along_more parts p levels level on.1.0.0 on.0 on.1.0.1);
          left = subst (λ o. IsLeft parts t (p ++ names) (end_of p s.cursor.levels.items) o) (sym ahead)
              (subst (λ q. IsLeft parts t (p ++ names) q None) (sym ends) (
                (
                  rest_of.0,
                  ap (λ ns. p ++ ns) rest_of.1 ∙ sym (append_assoc p front (n ∷ rest_of.0)) ∙ ap (λ q. q ++ n ∷ rest_of.0) (sym there) ∙ sym (append_assoc (end_of p levels) (n ∷ []) rest_of.0),
                ),
                λ m r h before. false≢true (sym (nothing_below t stands.tree.parents (end_of p levels ++ n ∷ []) m r none) ∙ h),
              ));
        };
    way = λ parts t stands agrees.
        let on = is.is_on parts t stands (agrees_before old new parts grows agrees) in
        let none = no_child_there parts t stands (end_of p levels) on.1.0.0 x on.1.0.1 n look in
        subst (λ l. AreNodesOf parts t (on_the_way t (is_below p) (Some (p ++ names))) l) (sym is_seen)
        (subst (λ l. AreNodesOf parts t l seen)
        (sym (way_is t stands.tree.parents p names front (n ∷ rest_of.0) rest_of.1 (λ q h. nodes_there parts t (fronts p front) seen q on.1.1 h) (subst (λ q. is_some (at t (q ++ n ∷ [])) ≡ false) there none)))
        on.1.1);
    looked = subst (λ l. AreHeld held new l) (sym is_seen) (held_grows held old new seen grows is.looked);
  }

  -- or its node lies in a stripe that isn't held
  pub needs_there : (need : Need) → NeedsChild now x n need → NeedsOnTheWay held new p (Some (p ++ names)) need
  needs_there need needs = record {
    within = subst (λ k. k < 64) (sym needs.stripe) (mod-lt needs.child (lit< tt));
    asks = needs.asks;
    lacks = ap (λ (h : Held). covers (h need.stripe) Shared) (sym same) ∙ ap (λ k. covers (now k) Shared) needs.stripe ∙ needs.lacks;
    needed = λ parts t stands agrees.
        let on = is.is_on parts t stands (agrees_before old new parts grows agrees) in
        let q = end_of p levels ++ n ∷ [] in
        let leads : follow parts 0 q ≡ Some needs.child = sym (names_lead parts t stands (end_of p levels) on.1.0.0 x on.1.0.1 n) ∙ needs.leads in
        let test : Path → Bool = λ r. is_below p r && is_prefix r (p ++ names) in
        let place = (index_from_stands parts t stands).places q needs.child leads in
        let ends : p ++ names ≡ q ++ rest_of.0 =
        ap (λ ns. p ++ ns) rest_of.1 ∙ sym (append_assoc p front (n ∷ rest_of.0)) ∙ ap (λ r. r ++ n ∷ rest_of.0) (sym there) ∙ sym (append_assoc (end_of p levels) (n ∷ []) rest_of.0) in (
          q,
          (
            needs.child,
            (
              among_keys t test q (ap is_some place.shows) (together (below_of p q (below_more p levels n)) (ap (is_prefix q) ends ∙ front_of_append q rest_of.0)),
              (leads, needs.stripe),
            ),
          ),
        );
  }
