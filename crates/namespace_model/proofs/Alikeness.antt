-- Two maps that are alike where a step touches the first one: the words of a step one by one.
use Rattle.std.proofs.Common.{◌≡◌, ◌⊎◌, inl, inr, ℕ, Bool, true, false, cond, List, [], ◌∷◌, ◌++◌, Option, Some, None, is_some, unwrap_or, Result, Ok, Err, refl, ap, sym, subst, ◌∙◌, append_assoc}
use Rattle.std.proofs.lemmas.Bool.{false≢true}
use Rattle.std.proofs.lemmas.List.{append-nil}
use Rattle.path_text.specs.Paths.{is_prefix}
use Rattle.namespace_model.specs.declared.caller.Caller.{Caller}
use Rattle.namespace_model.specs.declared.code.Code.{Code}
use Rattle.namespace_model.specs.declared.code.Code.TheVariants.{PathNotFound}
use Rattle.namespace_model.specs.declared.denied.Refusal.{Refusal}
use Rattle.namespace_model.specs.declared.reply.Reply.{Reply}
use Rattle.namespace_model.specs.declared.request.Entry.{Entry}
use Rattle.namespace_model.specs.Nodes.{Node, is_directory, blank}
use Rattle.namespace_model.specs.Trees.{Path, Tree, at, node_at, parent, keys_where, is_child, IsLaid, IsDirectory}
use Rattle.namespace_model.specs.Refusals.{caller_of, or_else, first_refusal}
use Rattle.namespace_model.specs.Outcomes.{Outcome, touched, reading, refused, unless, noted}
use Rattle.namespace_model.specs.Walks.{walk_or, walk, ended, missing_below, missing_code}
use Rattle.namespace_model.specs.Ways.{Way, reached, missing, blocked, closed, may_enter, passed, met, way_from, behind, seen, read_from, way_of, read_on}
use Rattle.namespace_model.specs.Looks.{found}
use Rattle.namespace_model.specs.Locality.{Among, Alike}
use Rattle.namespace_model.proofs.WayLemmas.{IsReadBy, base_read}
use Rattle.namespace_model.proofs.Lookups.{keys_same, among_keys}
use Rattle.namespace_model.proofs.Prefixes.{child_name, parent_name, behind_front, front_of_append, front_of_itself}

-- ---- lists

pub among_left : (p : Path) (ps qs : List Path) → Among p ps → Among p (ps ++ qs)
among_left p [] qs h = absurd h
among_left p (q ∷ ps) qs (inl e) = inl e
among_left p (q ∷ ps) qs (inr h) = inr (among_left p ps qs h)

pub among_right : (p : Path) (ps qs : List Path) → Among p qs → Among p (ps ++ qs)
among_right p [] qs h = h
among_right p (q ∷ ps) qs h = inr (among_right p ps qs h)

pub among_either : (p : Path) (ps qs : List Path) → Among p (ps ++ qs) → Among p ps ⊎ Among p qs
among_either p [] qs h = inr h
among_either p (q ∷ ps) qs (inl e) = inl (inl e)
among_either p (q ∷ ps) qs (inr h) = elim (among_either p ps qs h) [ inl k ↦ inl (inr k) | inr k ↦ inr k ]

-- what is read first is touched, and so is what is touched then
pub read_touched : (p : Path) (ps : List Path) (o : Outcome) → Among p ps → Among p (touched (reading ps o))
read_touched p ps o h = among_left p _ _ (among_left p ps o.read h)

pub then_touched : (p : Path) (ps : List Path) (o : Outcome) → Among p (touched o) → Among p (touched (reading ps o))
then_touched p ps o h = subst (λ l. Among p l) (sym (append_assoc ps o.read o.written)) (among_right p ps _ h)

known : (o : Option Node) → (is_some o ≡ true) ⊎ (is_some o ≡ false)
known None = inr refl
known (Some x) = inl refl

further : (d : Path) (n : List ℕ) (q : Path) → is_prefix (d ++ n ∷ []) q ≡ true → is_prefix d q ≡ true
further d n q e =
    let rest = behind_front (d ++ n ∷ []) q e in
    rw (rest.1, append_assoc d (n ∷ []) rest.0) (front_of_append d _)

no_child : (t : Tree) → IsLaid t → (d : Path) (n : List ℕ) → is_some (at t d) ≡ false → is_some (at t (d ++ n ∷ [])) ≡ false
no_child t laid d n gone = elim (known (at t (d ++ n ∷ []))) [
  | inl there ↦ absurd (no_directory (at t d) gone (laid d n there))
  | inr none ↦ none
]
  where
    no_directory : (o : Option Node) → is_some o ≡ false → IsDirectory o → ⊥
    no_directory None e h = h
    no_directory (Some x) e h = false≢true (sym e)

-- nothing stands below a path that isn't there
pub nothing_below : (t : Tree) → IsLaid t → (d : Path) (n : List ℕ) (r : Path) → is_some (at t d) ≡ false → is_some (at t (d ++ n ∷ r)) ≡ false
nothing_below t laid d n [] gone = no_child t laid d n gone
nothing_below t laid d n (m ∷ r) gone =
    subst (λ q. is_some (at t q) ≡ false) (append_assoc d (n ∷ []) (m ∷ r)) (nothing_below t laid (d ++ n ∷ []) m r (no_child t laid d n gone))

module _ (s t : Tree) (laid_s : IsLaid s) (laid_t : IsLaid t) where
  abbrev pub AlikeOn : Outcome → Type 0
  AlikeOn o = (p : Path) → Among p (touched o) → Alike s t p

  -- these paths are read, and then it goes on
  pub go_on : (ps : List Path) (a b : Outcome) → (((p : Path) → Among p ps → Alike s t p) → AlikeOn a → a ≡ b) → AlikeOn (reading ps a) → reading ps a ≡ reading ps b
  go_on ps a b same h = ap (reading ps) (same (λ p k. h p (read_touched p ps a k)) (λ p k. h p (then_touched p ps a k)))

  pub unless_same : (x y : Option Reply) (a b : Outcome) → x ≡ y → (AlikeOn a → a ≡ b) → AlikeOn (unless x a) → unless x a ≡ unless y b
  unless_same None y a b e same h = subst (λ z. a ≡ unless z b) e (same h)
  unless_same (Some reply) y a b e same h = ap (λ z. unless z b) e

  noted_of : (u v : Option Node) (p : Path) (none none' : Outcome) (f g : Node → Outcome) → is_some u ≡ is_some v → (AlikeOn none → none ≡ none')
      → ((x : Node) → Alike s t p → (u ≡ Some x → v ≡ Some x) → AlikeOn (f x) → f x ≡ g x) → (Alike s t p → u ≡ v) → AlikeOn (noted u p none f) → noted u p none f ≡ noted v p none' g
  noted_of None None p none none' f g e same_none same_some is h = same_none h
  noted_of None (Some y) p none none' f g e same_none same_some is h = absurd (false≢true e)
  noted_of (Some x) v p none none' f g e same_none same_some is h =
      let alike = h p (inl refl) in
      let here = is alike in
      let then = same_some x alike (λ k. sym here ∙ k) (λ q k. h q (inr k)) in
      ap (reading (p ∷ [])) then ∙ ap (λ (w : Option Node). noted w p none' g) here

  -- a node is looked at whose being there shows alike
  pub noted_same : (p : Path) (none none' : Outcome) (f g : Node → Outcome) → is_some (at s p) ≡ is_some (at t p) → (AlikeOn none → none ≡ none')
      → ((x : Node) → Alike s t p → (at s p ≡ Some x → at t p ≡ Some x) → AlikeOn (f x) → f x ≡ g x) → AlikeOn (noted (at s p) p none f) → noted (at s p) p none f ≡ noted (at t p) p none' g
  noted_same p none none' f g e same_none same_some h = noted_of (at s p) (at t p) p none none' f g e same_none same_some (λ alike. alike.node) h

  -- a path shows alike where its parent is alike
  pub shown_below : (d : Path) (p : Path) (n : List ℕ) → p ≡ d ++ n ∷ [] → Alike s t d → is_some (at s p) ≡ is_some (at t p)
  shown_below d p n e alike = ap (λ q. is_some (at s q)) e ∙ alike.names n ∙ ap (λ q. is_some (at t q)) (sym e)

  pub shown_from_parent : (p : Path) → Alike s t (parent p) → is_some (at s p) ≡ is_some (at t p)
  shown_from_parent p alike = elim (parent_name p) [
    | inl e ↦ ap (λ q. is_some (at s q)) e ∙ ap is_some (let up : parent p ≡ [] = ap parent e in subst (λ q. Alike s t q) up alike).node ∙ ap (λ q. is_some (at t q)) (sym e)
    | inr h ↦ shown_below (parent p) p h.0 h.1 alike
  ]

  pub node_same : (p : Path) → Alike s t p → node_at s p ≡ node_at t p
  node_same p alike = ap (λ (o : Option Node). unwrap_or o blank) alike.node

  -- a node that is alike, and how the way goes on behind it
  met_same : (caller : Caller) (done q : Path) (u v : Option Node) (one other : Way) (ps qs : List Path) → is_some u ≡ is_some v → ((o : Path) → Among o (seen caller q u ps) → Alike s t o)
      → (Alike s t q → u ≡ v) → (Alike s t q → ((o : Path) → Among o ps → Alike s t o) → (one ≡ other) × (ps ≡ qs))
      → (met caller done q u one ≡ met caller done q v other) × (seen caller q u ps ≡ seen caller q v qs)
  met_same caller done q None None one other ps qs e alike is on = (refl, refl)
  met_same caller done q None (Some y) one other ps qs e alike is on = absurd (false≢true e)
  met_same caller done q (Some x) v one other ps qs e alike is on =
      let here = alike q (inl refl) in
      let same = is here in
      let further = by_kind here (is_directory x) (λ o k. alike o (inr k)) in
      (further.0 ∙ ap (λ (w : Option Node). met caller done q w other) same, ap (λ (l : List Path). q ∷ l) further.1 ∙ ap (λ (w : Option Node). seen caller q w qs) same)
    where
      by_check : Alike s t q → (c : Result Unit Refusal) → ((o : Path) → Among o (behind c ps) → Alike s t o) → (passed q c one ≡ passed q c other) × (behind c ps ≡ behind c qs)
      by_check here (Ok allowed) more = on here more
      by_check here (Err r) more = (refl, refl)

      by_kind : Alike s t q → (d : Bool) → ((o : Path) → Among o (cond d (behind (may_enter caller x) ps) []) → Alike s t o)
          → (cond d (passed q (may_enter caller x) one) (blocked q) ≡ cond d (passed q (may_enter caller x) other) (blocked q)) × (cond d (behind (may_enter caller x) ps) [] ≡ cond d (behind (may_enter caller x) qs) [])
      by_kind here true more = by_check here (may_enter caller x) more
      by_kind here false more = (refl, refl)

  -- the way from a directory that is alike, where all that is read on it is
  pub way_same : (caller : Caller) (done names : Path) → Alike s t done → ((o : Path) → Among o (read_from s caller done names) → Alike s t o)
      → (way_from s caller done names ≡ way_from t caller done names) × (read_from s caller done names ≡ read_from t caller done names)
  way_same caller done [] alike reads = (refl, refl)
  way_same caller done (n ∷ names) alike reads =
      met_same caller done (done ++ n ∷ []) (at s (done ++ n ∷ [])) (at t (done ++ n ∷ [])) (way_from s caller (done ++ n ∷ []) names) (way_from t caller (done ++ n ∷ []) names)
      (read_from s caller (done ++ n ∷ []) names) (read_from t caller (done ++ n ∷ []) names) (alike.names n) reads (λ k. k.node) (λ here more. way_same caller (done ++ n ∷ []) names here more)

  ended_same : (lost lost' : Path → Outcome) (code : Code) (a b : Outcome) (ps : List Path) (whole : Path) → ((o : Path) → Among o ps → Alike s t o)
      → ((d : Path) → Alike s t d → AlikeOn (lost d) → lost d ≡ lost' d) → (Alike s t whole → AlikeOn a → a ≡ b)
      → (w : Way) → IsReadBy ps whole w → AlikeOn (ended lost code a w) → ended lost code a w ≡ ended lost' code b w
  ended_same lost lost' code a b ps whole alike same_lost same reached base h = same (alike whole base) h
  ended_same lost lost' code a b ps whole alike same_lost same (missing d) base h = same_lost d (alike d base) h
  ended_same lost lost' code a b ps whole alike same_lost same (blocked p) base h = refl
  ended_same lost lost' code a b ps whole alike same_lost same (closed p r) base h = refl

  -- A walk; what comes then may use that the last directory is alike.
  pub walk_or_same : (caller : Caller) (lost lost' : Path → Node → Outcome) (code : Code) (p : Path) (next next' : Node → Outcome)
      → ((d : Path) (x : Node) → Alike s t d → AlikeOn (lost d x) → lost d x ≡ lost' d x) → ((x : Node) → Alike s t (parent p) → AlikeOn (next x) → next x ≡ next' x)
      → AlikeOn (walk_or s caller lost code p next) → walk_or s caller lost code p next ≡ walk_or t caller lost' code p next'
  walk_or_same caller lost lost' code p next next' same_lost same h =
      let reads : (o : Path) → Among o (read_on s caller p) → Alike s t o = λ o k. h o (read_touched o (read_on s caller p) (ended (λ d. lost d (node_at s d)) code (next (node_at s (parent p))) (way_of s caller p)) k) in
      let way = way_same caller [] (parent p) (reads [] (inl refl)) (λ o k. reads o (inr k)) in
      let then = ended_same (λ d. lost d (node_at s d)) (λ d. lost' d (node_at t d)) code (next (node_at s (parent p))) (next' (node_at t (parent p))) (read_on s caller p) (parent p) reads
      (λ d alike k. same_lost d (node_at s d) alike k ∙ ap (lost' d) (node_same d alike)) (λ alike k. same (node_at s (parent p)) alike k ∙ ap next' (node_same (parent p) alike))
      (way_of s caller p) (base_read s caller [] (parent p))
      (λ o k. h o (then_touched o (read_on s caller p) (ended (λ d. lost d (node_at s d)) code (next (node_at s (parent p))) (way_of s caller p)) k)) in
      ap (reading (read_on s caller p)) then
      ∙ ap (λ (l : List Path). reading ([] ∷ l) (ended (λ d. lost' d (node_at t d)) code (next' (node_at t (parent p))) (way_of s caller p))) way.1
      ∙ ap (λ w. reading (read_on t caller p) (ended (λ d. lost' d (node_at t d)) code (next' (node_at t (parent p))) w)) way.0

  -- the walk to the parent of a path
  pub walk_same : (caller : Caller) (code : Code) (p : Path) (next next' : Node → Outcome) → ((x : Node) → Alike s t (parent p) → AlikeOn (next x) → next x ≡ next' x)
      → AlikeOn (walk s caller code p next) → walk s caller code p next ≡ walk t caller code p next'
  walk_same caller code p next next' same = walk_or_same caller (λ d dir. missing_below code d) (λ d dir. missing_below code d) code p next next' (λ d x alike k. refl) same

  -- the way to a node, and the node
  pub found_same : (e : Entry) (p : Path) (f g : Node → Outcome) → ((x : Node) → Alike s t p → AlikeOn (f x) → f x ≡ g x)
      → AlikeOn (found s e p f) → found s e p f ≡ found t e p g
  found_same e p f g same =
      walk_same (caller_of e) PathNotFound p (λ dir. noted (at s p) p (refused (missing_code p PathNotFound)) f) (λ dir. noted (at t p) p (refused (missing_code p PathNotFound)) g) (λ dir up. noted_same p (refused (missing_code p PathNotFound)) (refused (missing_code p PathNotFound)) f g (shown_from_parent p up) (λ k. refl) (λ x alike is. same x alike))

  -- the children of a path that is alike
  pub children_same : (d : Path) → Alike s t d → keys_where s (is_child d) ≡ keys_where t (is_child d)
  children_same d alike = keys_same s t (is_child d) (λ q e. let name = child_name d q e in shown_below d q name.0 name.1 alike)

  -- Going down from a path that shows alike to one below it, as long as what is there on the way is alike.
  pub shown_down : (d r : Path) → is_some (at s d) ≡ is_some (at t d)
      → ((q more : Path) (n : List ℕ) → d ++ r ≡ q ++ n ∷ more → is_prefix d q ≡ true → is_some (at s q) ≡ true → Alike s t q)
      → is_some (at s (d ++ r)) ≡ is_some (at t (d ++ r))
  shown_down d [] shown alike = rw (append-nil d) shown
  shown_down d (n ∷ r) shown alike = elim (known (at s d)) [
    | inl there ↦
        let here = alike d r n refl (front_of_itself d) there in
        subst (λ q. is_some (at s q) ≡ is_some (at t q)) (append_assoc d (n ∷ []) r)
        (shown_down (d ++ n ∷ []) r (here.names n)
        (λ q more m e front q_there. alike q more m (sym (append_assoc d (n ∷ []) r) ∙ e) (further d n q front) q_there))
    | inr gone ↦ nothing_below s laid_s d n r gone ∙ sym (nothing_below t laid_t d n r (sym shown ∙ gone))
  ]

  -- all at and below a path, where each of it that is there is alike
  pub subtree_same : (p : Path) → is_some (at s p) ≡ is_some (at t p) → ((q : Path) → Among q (keys_where s (is_prefix p)) → Alike s t q)
      → keys_where s (is_prefix p) ≡ keys_where t (is_prefix p)
  subtree_same p shown alike =
      keys_same s t (is_prefix p) (λ q e.
      let rest = behind_front p q e in
      rw (rest.1) (shown_down p rest.0 shown (λ o more n f front there. alike o (among_keys s (is_prefix p) o there front))))

  -- questions that are the same on both, at paths that are alike
  pub first_refusal_same : (asks asks' : Path → Node → Option Reply) (ps : List Path) → ((q : Path) → Among q ps → Alike s t q × ((x : Node) → asks q x ≡ asks' q x))
      → first_refusal asks s ps ≡ first_refusal asks' t ps
  first_refusal_same asks asks' [] same = refl
  first_refusal_same asks asks' (p ∷ ps) same =
      let here = same p (inl refl) in
      let question : asks p (node_at s p) ≡ asks' p (node_at t p) = here.1 (node_at s p) ∙ ap (asks' p) (node_same p here.0) in
      let rest = first_refusal_same asks asks' ps (λ q k. same q (inr k)) in
      ap (λ r. or_else r (first_refusal asks s ps)) question ∙ ap (or_else (asks' p (node_at t p))) rest
