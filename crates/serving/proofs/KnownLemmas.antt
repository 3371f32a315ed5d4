-- What is known of the journal grows.
use Rattle.std.proofs.Common.{◌≡◌, ℕ, suc, ◌+◌, ◌≤◌, Bool, true, false, cond, List, [], ◌∷◌, ◌++◌, length, map, drop, refl, sym, ap, ◌∙◌, arith, append_assoc, append-nil, length-append, length-drop}
use Rattle.std.specs.Prelude.{filter}
use Rattle.std.proofs.lemmas.List.{length-map, map-append, drop_all}
use Rattle.std.proofs.lemmas.List.Elements.{filter-append}
use Rattle.std.proofs.Math.Seq.{drop-append_seam}
use lib.Seq.{drop-append-le}
use Rattle.namespace_model.specs.declared.request.Entry.{Entry}
use Rattle.serving.specs.Known.{Known, HasItsOwn, Grew, own_behind, own_texts_of, own_texts}
use Rattle.serving.specs.Texts.{texts_of}
use Rattle.serving.proofs.Texts.{length-texts_of, texts_stay}

-- ---- own entries

module _ {X : Type 0} (is_own : X → Bool) where
  -- nothing was added yet
  pub grew-none : (known : Known X) → HasItsOwn is_own known → Grew is_own known known []
  grew-none known own = record { more = []; seen = sym (append-nil known.seen); own = refl; mine = sym (append-nil known.mine); all_mine = own }

  -- growing twice is growing once
  pub grew-more : (old mid new : Known X) (es fs : List X) → Grew is_own old mid es → Grew is_own mid new fs → Grew is_own old new (es ++ fs)
  grew-more old mid new es fs a b = record {
    more = a.more ++ b.more;
    seen = b.seen ∙ ap (λ (l : List X). l ++ b.more) a.seen ∙ append_assoc old.seen a.more b.more;
    own = filter-append is_own a.more b.more ∙ ap (λ (l : List X). l ++ filter is_own b.more) a.own ∙ ap (λ (l : List X). es ++ l) b.own;
    mine = b.mine ∙ ap (λ (l : List X). l ++ fs) a.mine ∙ append_assoc old.mine es fs;
    all_mine = b.all_mine;
  }

  -- also where the second time adds no own entries
  pub grew-others : (old mid new : Known X) (es : List X) → Grew is_own old mid es → Grew is_own mid new [] → Grew is_own old new es
  grew-others old mid new es a b = rw (append-nil es) at (grew-more old mid new es [] a b)

  -- what is behind the old entries
  pub behind : (old new : Known X) (es : List X) (grew : Grew is_own old new es) → drop (length old.seen) new.seen ≡ grew.more
  behind old new es grew = ap (drop (length old.seen)) grew.seen ∙ drop-append_seam old.seen grew.more

  -- and which of it is own
  pub grew-own : (old new : Known X) (es : List X) → Grew is_own old new es → own_behind is_own old.seen new.seen ≡ es
  grew-own old new es grew = ap (filter is_own) (behind old new es grew) ∙ grew.own

  -- one own entry at the end of a journal of which the other new entries are of others: from what a commit says
  pub grew-one : (old new : Known X) (before rest : List X) (x : X) → before ≡ old.seen ++ rest → new.seen ≡ before ++ x ∷ [] → new.mine ≡ old.mine ++ x ∷ []
      → HasItsOwn is_own old → HasItsOwn is_own new → Grew is_own old new (x ∷ [])
  grew-one old new before rest x begins ends grown was is =
      let more = rest ++ x ∷ [] in
      let seen : new.seen ≡ old.seen ++ more = ends ∙ ap (λ (l : List X). l ++ x ∷ []) begins ∙ append_assoc old.seen rest (x ∷ []) in
      let both : filter is_own old.seen ++ filter is_own more ≡ filter is_own old.seen ++ x ∷ [] =
      sym (filter-append is_own old.seen more) ∙ ap (filter is_own) (sym seen) ∙ sym is ∙ grown ∙ ap (λ (l : List X). l ++ x ∷ []) was in
      record {
        more = more;
        seen = seen;
        own = front_cancels (filter is_own old.seen) (filter is_own more) (x ∷ []) both;
        mine = grown;
        all_mine = is;
      }
    where
      front_cancels : (a b c : List X) → a ++ b ≡ a ++ c → b ≡ c
      front_cancels [] b c e = e
      front_cancels (y ∷ a) b c e = front_cancels a b c (cc)

  -- ---- own texts

  -- of two lists one after the other the own texts are those of the first, and then those of the second
  own_texts-append : (xs ys : List X) (ts us : List (List ℕ)) → length xs ≡ length ts
      → own_texts_of is_own (xs ++ ys) (ts ++ us) ≡ own_texts_of is_own xs ts ++ own_texts_of is_own ys us
  unfolding own_texts_of
  own_texts-append [] ys [] us same = refl
  own_texts-append [] ys (t ∷ ts) us same = absurd (omega arith)
  own_texts-append (x ∷ xs) ys [] us same = absurd (omega arith)
  own_texts-append (x ∷ xs) ys (t ∷ ts) us same =
      let less : length xs ≡ length ts = omega arith in
      by_own (is_own x) t _ _ _ (own_texts-append xs ys ts us less)
    where
      by_own : (b : Bool) (t : List ℕ) (whole front back : List (List ℕ)) → whole ≡ front ++ back → cond b (t ∷ whole) whole ≡ cond b (t ∷ front) front ++ back
      by_own true t whole front back is = ap (λ (l : List (List ℕ)). t ∷ l) is
      by_own false t whole front back is = is

  -- as many as there are own entries
  own_texts-length : (xs : List X) (ts : List (List ℕ)) → length xs ≡ length ts → length (own_texts_of is_own xs ts) ≡ length (filter is_own xs)
  unfolding own_texts_of
  own_texts-length [] ts same = refl
  own_texts-length (x ∷ xs) [] same = absurd (omega arith)
  own_texts-length (x ∷ xs) (t ∷ ts) same =
      let less : length xs ≡ length ts = omega arith in
      by_own (is_own x) x t _ _ (own_texts-length xs ts less)
    where
      by_own : (b : Bool) (x : X) (t : List ℕ) (texts : List (List ℕ)) (own : List X) → length texts ≡ length own
          → length (cond b (t ∷ texts) texts) ≡ length (cond b (x ∷ own) own)
      by_own true x t texts own is = ap suc is
      by_own false x t texts own is = is

  module _ (entry_of : X → Entry) where
    -- one text for each entry
    long : (xs : List X) → length (texts_of (map entry_of xs)) ≡ length xs
    long xs = length-texts_of (map entry_of xs) ∙ length-map xs entry_of

    -- as many entries as texts behind the old ones
    as_many : (old new : List X) → length (drop (length old) new) ≡ length (drop (length old) (texts_of (map entry_of new)))
    as_many old new = omega (arith, length-drop (length old) new, length-drop (length old) (texts_of (map entry_of new)), long new)

    -- own texts of a journal that grew twice
    own-more : (old more further : List X)
        → own_texts entry_of is_own old ((old ++ more) ++ further) ≡ own_texts entry_of is_own old (old ++ more) ++ own_texts entry_of is_own (old ++ more) ((old ++ more) ++ further)
    own-more old more further =
        let mid = old ++ more in
        let on = texts_stay (map entry_of mid) (map entry_of further) in
        let q = on.further in
        let ts = texts_of (map entry_of mid) in
        let whole : texts_of (map entry_of (mid ++ further)) ≡ ts ++ q = ap texts_of (map-append entry_of mid further) ∙ on.whole in
        let within : length old ≤ length ts = omega (arith, long mid, length-append old more) in
        let entries : drop (length old) (mid ++ further) ≡ more ++ further = ap (drop (length old)) (append_assoc old more further) ∙ drop-append_seam old (more ++ further) in
        let own_entries : drop (length old) mid ≡ more = drop-append_seam old more in
        let late_entries : drop (length mid) (mid ++ further) ≡ further = drop-append_seam mid further in
        let all_texts : drop (length old) (texts_of (map entry_of (mid ++ further))) ≡ drop (length old) ts ++ q = ap (drop (length old)) whole ∙ drop-append-le (length old) ts q within in
        let late_texts : drop (length mid) (texts_of (map entry_of (mid ++ further))) ≡ q =
        ap (λ (n : ℕ). drop n (texts_of (map entry_of (mid ++ further)))) (sym (long mid)) ∙ ap (drop (length ts)) whole ∙ drop-append_seam ts q in
        let same : length more ≡ length (drop (length old) ts) = omega (arith, length-drop (length old) ts, long mid, length-append old more) in
        rw (entries, all_texts, own_entries, late_entries, late_texts) (own_texts-append more further (drop (length old) ts) q same)

    own-more_at : (old mid new more further : List X) → mid ≡ old ++ more → new ≡ mid ++ further
        → own_texts entry_of is_own old new ≡ own_texts entry_of is_own old mid ++ own_texts entry_of is_own mid new
    own-more_at old mid new more further first second = rw (second, first) (own-more old more further)

    -- the own texts of what is known, where that grew twice
    pub own_texts-more : (old mid new : Known X) (es fs : List X) → Grew is_own old mid es → Grew is_own mid new fs
        → own_texts entry_of is_own old.seen new.seen ≡ own_texts entry_of is_own old.seen mid.seen ++ own_texts entry_of is_own mid.seen new.seen
    own_texts-more old mid new es fs a b = own-more_at old.seen mid.seen new.seen a.more b.more a.seen b.seen

    -- one for each own entry
    pub own_texts-many : (old new : Known X) (es : List X) → Grew is_own old new es → length (own_texts entry_of is_own old.seen new.seen) ≡ length es
    own_texts-many old new es grew =
        own_texts-length (drop (length old.seen) new.seen) (drop (length old.seen) (texts_of (map entry_of new.seen))) (as_many old.seen new.seen)
        ∙ ap length (grew-own old new es grew)

    no_texts : (l : List (List ℕ)) → length l ≡ 0 → l ≡ []
    no_texts [] is = refl
    no_texts (t ∷ l) is = absurd (omega arith)

    -- entries of others have no own texts
    pub own_texts-none : (old new : Known X) → Grew is_own old new [] → own_texts entry_of is_own old.seen new.seen ≡ []
    own_texts-none old new grew = no_texts (own_texts entry_of is_own old.seen new.seen) (own_texts-many old new [] grew)

    -- so they leave the own texts as they were
    pub own_texts-others : (old mid new : Known X) (es : List X) → Grew is_own old mid es → Grew is_own mid new []
        → own_texts entry_of is_own old.seen new.seen ≡ own_texts entry_of is_own old.seen mid.seen
    own_texts-others old mid new es a b =
        own_texts-more old mid new es [] a b ∙ ap (λ (l : List (List ℕ)). own_texts entry_of is_own old.seen mid.seen ++ l) (own_texts-none mid new b)
        ∙ append-nil (own_texts entry_of is_own old.seen mid.seen)
