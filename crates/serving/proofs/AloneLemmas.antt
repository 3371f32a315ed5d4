-- A server whose journal is all its own.
use Rattle.std.proofs.Common.{◌≡◌, ℕ, suc, ◌<◌, Bool, true, List, [], ◌∷◌, ◌++◌, length, map, drop, Option, refl, sym, ap, ◌∙◌, arith, append-nil}
use Rattle.std.specs.Prelude.{filter}
use Rattle.conn_io.specs.Moments.{Ticks, HasTicked, IsForetold}
use Rattle.std.specs.Prelude.{Some, None}
use Rattle.commit_journal.specs.Limits.{LimitNumbers}
use Rattle.namespace_model.specs.declared.request.Request.{Request}
use Rattle.namespace_model.specs.declared.request.Entry.{Entry}
use Rattle.serving.specs.declared.end.End.{End}
use Rattle.serving.specs.declared.end.End.TheVariants.{NoMemory}
use Rattle.serving.specs.Known.{Known, HasItsOwn, Grew, own_texts_of, own_texts}
use Rattle.serving.specs.Moments.{AsksOnce, Paced, FollowOn}
use Rattle.serving.specs.Served.{Served, ServedAlone, all_own, known_alone, itself}
use Rattle.serving.specs.Texts.{texts_of}
use Rattle.serving.proofs.MomentLemmas.{paced-follow}
use Rattle.serving.proofs.ServeLemmas.{not_begun}
use Rattle.serving.proofs.Texts.{length-texts_of}
use Rattle.std.proofs.Math.Seq.{drop-append_seam}

-- every entry is its own
pub every_own : {X : Type 0} (xs : List X) → filter all_own xs ≡ xs
every_own [] = refl
every_own (x ∷ xs) = ap (λ (l : List _). x ∷ l) (every_own xs)

pub itself-map : (es : List Entry) → map itself es ≡ es
itself-map [] = refl
itself-map (e ∷ es) = ap (λ (l : List Entry). e ∷ l) (itself-map es)

-- and so is every text
texts_all_own : {X : Type 0} (xs : List X) (ts : List (List ℕ)) → length xs ≡ length ts → own_texts_of all_own xs ts ≡ ts
unfolding own_texts_of
texts_all_own [] [] same = refl
texts_all_own [] (t ∷ ts) same = absurd (omega arith)
texts_all_own (x ∷ xs) [] same = absurd (omega arith)
texts_all_own (x ∷ xs) (t ∷ ts) same = ap (λ (l : List (List ℕ)). t ∷ l) (texts_all_own xs ts (omega arith))

pub own-alone : (journal : List Entry) → HasItsOwn all_own (known_alone journal)
own-alone journal = sym (every_own journal)

-- the journal grew by these entries
pub alone-grew : (old new es : List Entry) → new ≡ old ++ es → Grew all_own (known_alone old) (known_alone new) es
alone-grew old new es is = record { more = es; seen = is; own = every_own es; mine = is; all_mine = own-alone new }

pub alone-same : (old new : List Entry) → new ≡ old → Grew all_own (known_alone old) (known_alone new) []
alone-same old new is = alone-grew old new [] (is ∙ sym (append-nil old))

-- one entry more has its text
pub alone-text : (old new : List Entry) (e : Entry) (text : List ℕ) → new ≡ old ++ e ∷ [] → texts_of new ≡ texts_of old ++ text ∷ [] → own_texts itself all_own old new ≡ text ∷ []
alone-text old new e text journal grown =
    let entries : drop (length old) new ≡ e ∷ [] = ap (drop (length old)) journal ∙ drop-append_seam old (e ∷ []) in
    let late : drop (length old) (texts_of (map itself new)) ≡ text ∷ [] =
    ap (λ (l : List Entry). drop (length old) (texts_of l)) (itself-map new) ∙ ap (λ (n : ℕ). drop n (texts_of new)) (sym (length-texts_of old))
    ∙ ap (drop (length (texts_of old))) grown ∙ drop-append_seam (texts_of old) (text ∷ []) in
    ap (λ (l : List Entry). own_texts_of all_own l (drop (length old) (texts_of (map itself new)))) entries
    ∙ ap (λ (l : List (List ℕ)). own_texts_of all_own (e ∷ []) l) late ∙ texts_all_own (e ∷ []) (text ∷ []) refl

-- a clock that was asked once
pub ticked-once : (ahead ahead' : Option (ℕ → ℕ)) (moment : ℕ) → Ticks ahead ahead' moment → HasTicked ahead ahead' 1
ticked-once None ahead' moment ticks = tt
ticked-once (Some f) None moment ticks = absurd ticks
ticked-once (Some f) (Some g) moment ticks = ticks.1

pub foretold-once : (ahead ahead' : Option (ℕ → ℕ)) (moment : ℕ) → Ticks ahead ahead' moment → IsForetold ahead 0 moment
foretold-once None ahead' moment ticks = tt
foretold-once (Some f) None moment ticks = absurd ticks
foretold-once (Some f) (Some g) moment ticks = ticks.0

-- what was served by a desk that asks the clock once a request
pub served_alone : (entered : Request → Request) (limits : LimitNumbers) (left left' out out' : Option (List ℕ)) (ahead : Option (ℕ → ℕ)) (old new : List Entry) (answered : ℕ) (e : End)
    → Served itself all_own entered (Paced AsksOnce 0) 0 limits left left' out out' ahead (known_alone old) (known_alone new) answered e
    → ServedAlone entered limits left left' out out' ahead old new answered e
served_alone entered limits left left' out out' ahead old new answered e served = record {
  taken = served.taken;
  written = served.written;
  entries = served.entries;
  asked = served.asked;
  rest = served.rest;
  consumes = served.consumes;
  appends = served.appends;
  requests = served.requests;
  placed = served.placed;
  pace = paced-follow AsksOnce (λ answer times is. is) 0 served.asked served.pace;
  history = served.history;
  text = served.text;
  closing = served.closing;
  few = served.few;
  ends = served.ends;
  forces = served.forces;
}

-- a connection that was not begun for want of memory
pub not_begun_alone : (entered : Request → Request) (limits : LimitNumbers) (left out : Option (List ℕ)) (ahead : Option (ℕ → ℕ)) (old : List Entry) → 0 < limits.requests_max
    → ServedAlone entered limits left left out out ahead old old 0 NoMemory
not_begun_alone entered limits left out ahead old some =
    served_alone entered limits left left out out ahead old old 0 NoMemory
    (not_begun itself all_own entered AsksOnce 0 limits left out ahead (known_alone old) (own-alone old) some)
