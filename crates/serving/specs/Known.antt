-- What a server knows of the journal, which others may share, and what of it is its own.
use Rattle.std.specs.Prelude.{◌≡◌, Bool, List, [], ◌∷◌, ◌++◌, length, map, filter, drop, ℕ, if◌then◌else◌}
use Rattle.namespace_model.specs.declared.request.Entry.{Entry}
use Rattle.serving.specs.Texts.{texts_of}

-- the journal as far as a server knows it, and its own entries
pub record Known (X : Type 0) : Type 0 where
  pub seen : List X
  pub mine : List X

-- the own entries are those of the journal
abbrev pub HasItsOwn : {X : Type 0} → (X → Bool) → Known X → Type 0
HasItsOwn is_own known = known.mine ≡ filter is_own known.seen

-- What is known of the journal grew at its end, by these own entries and by any entries of others.
pub record Grew {X : Type 0} (is_own : X → Bool) (old new : Known X) (entries : List X) : Type 0 where
  pub more : List X
  pub seen : new.seen ≡ old.seen ++ more
  pub own : filter is_own more ≡ entries
  pub mine : new.mine ≡ old.mine ++ entries
  pub all_mine : HasItsOwn is_own new

-- the entries behind those that were known before, in their order, the own ones alone
abbrev pub own_behind : {X : Type 0} → (X → Bool) → List X → List X → List X
own_behind is_own old new = filter is_own (drop (length old) new)

-- of the texts of entries, one each, those of the own entries
unfoldable pub own_texts_of : {X : Type 0} → (X → Bool) → List X → List (List ℕ) → List (List ℕ)
own_texts_of is_own [] texts = []
own_texts_of is_own (x ∷ xs) [] = []
own_texts_of is_own (x ∷ xs) (t ∷ ts) = if is_own x then t ∷ own_texts_of is_own xs ts else own_texts_of is_own xs ts

-- for each own entry past the old ones, in order, the text of the reply that the run of the whole journal gives at its place
abbrev pub own_texts : {X : Type 0} → (X → Entry) → (X → Bool) → List X → List X → List (List ℕ)
own_texts entry_of is_own old new = own_texts_of is_own (drop (length old) new) (drop (length old) (texts_of (map entry_of new)))
