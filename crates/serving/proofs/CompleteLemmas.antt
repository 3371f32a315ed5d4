-- Completeness: bytes that are complete requests and nothing else are all answered, up to the first request that closes.
use Rattle.std.proofs.Common.{◌≡◌, ◌≢◌, ℕ, Bool, true, false, ◌⊎◌, inl, inr, List, [], ◌∷◌, ◌++◌, length, map, Option, Some, None, refl, sym, ap, ◌∙◌, append_assoc, append-nil, arith}
use Rattle.std.specs.Prelude.{All, if◌then◌else◌}
use Rattle.std.specs.List.{flat_map}
use Rattle.std.proofs.lemmas.List.{map-append}
use Rattle.std.proofs.lemmas.List.Elements.{All-head, All-tail}
use Rattle.conn_io.specs.Causes.{Rose}
use Rattle.commit_journal.specs.Limits.{LimitNumbers}
use Rattle.http_front.specs.Requests.{RequestText, print_text, IsComplete}
use Rattle.http_front.proofs.TextLemmas.{Begins_unique, print_text_some}
use Rattle.http_front.proofs.CauseLemmas.{unfinished_begins_none}
use Rattle.http_front.proofs.FaultLemmas.{faultless}
use Rattle.namespace_model.specs.declared.request.Request.{Request}
use Rattle.namespace_model.specs.declared.request.Entry.{Entry}
use Rattle.serving.specs.declared.end.End.{End}
use Rattle.serving.specs.declared.end.End.TheVariants as end
use Rattle.serving.specs.Completes.{AnswersAll, Completes, up_to_close, asked_in}
use Rattle.serving.specs.Ends.{EndsDone, IsBusy, ReadCounts, WriteCounts}
use Rattle.serving.specs.Known.{Known, own_behind}
use Rattle.serving.specs.Served.{Served, ClosesLast, is_closed, request_of, entered_in}
use Rattle.serving.proofs.KnownLemmas.{grew-own}

-- requests that are the front of requests, and what is left of these
record IsFront (ts us : List RequestText) (rest : List ℕ) : Type 0 where
  more : List RequestText
  whole : us ≡ ts ++ more
  rest_is : rest ≡ flat_map print_text more
  each : All IsComplete more

front : (ts us : List RequestText) (rest : List ℕ) → All IsComplete ts → All IsComplete us → flat_map print_text ts ++ rest ≡ flat_map print_text us → IsFront ts us rest
front [] us rest fit each same = record { more = us; whole = refl; rest_is = same; each = each }
front (t ∷ ts) [] rest fit each same =
    let some = print_text_some t (flat_map print_text ts ++ rest) (All-head IsComplete t ts fit) in
    absurd (omega (arith, some, ap length (sym (append_assoc (print_text t) (flat_map print_text ts) rest) ∙ same)))
front (t ∷ ts) (u ∷ us) rest fit each same =
    let one = Begins_unique (print_text u ++ flat_map print_text us) t u (flat_map print_text ts ++ rest) (flat_map print_text us)
    (All-head IsComplete t ts fit, sym same ∙ append_assoc (print_text t) (flat_map print_text ts) rest)
    (All-head IsComplete u us each, refl) in
    let more = front ts us rest (All-tail IsComplete t ts fit) (All-tail IsComplete u us each) one.1 in
    record { more = more.more; whole = (λ i. (sym one.0) i ∷ more.whole i); rest_is = more.rest_is; each = more.each }

-- no request is left where no byte is
none_left : (us : List RequestText) → All IsComplete us → [] ≡ flat_map print_text us → us ≡ []
none_left [] each none = refl
none_left (u ∷ us) each none = absurd (omega (arith, print_text_some u (flat_map print_text us) (All-head IsComplete u us each), ap length none))

-- an end at which the source told nothing more
known_end : (rest : List ℕ) (left : List ℕ) → left ≡ [] → rest ++ left ≡ rest
known_end rest left none = ap (λ (l : List ℕ). rest ++ l) none ∙ append-nil rest

-- what follows a request that does not close, and one that does
goes_on : (r : Request) (rs : List Request) → r.close ≡ false → up_to_close (r ∷ rs) ≡ r ∷ up_to_close rs
goes_on r rs stays = ap (λ (b : Bool). r ∷ (if b then [] else up_to_close rs)) stays

stops : (r : Request) (rs : List Request) → r.close ≡ true → up_to_close (r ∷ rs) ≡ r ∷ []
stops r rs shut = ap (λ (b : Bool). r ∷ (if b then [] else up_to_close rs)) shut

-- the first request that closes is the last of entries of which only the last closes
closes_there : (es : List Entry) (more : List Request) → ClosesLast es → is_closed es ≡ true → up_to_close (map request_of es ++ more) ≡ map request_of es
closes_there [] more last is = absurd (cc)
closes_there (e ∷ []) more last is = stops e.request more is
closes_there (e ∷ f ∷ es) more last is =
    goes_on e.request (map request_of (f ∷ es) ++ more) last.0 ∙ ap (λ (l : List Request). e.request ∷ l) (closes_there (f ∷ es) more last.1 is)

-- where none of the entries closes, the first request that does is behind them
closes_behind : (es : List Entry) (more : List Request) → ClosesLast es → is_closed es ≡ false → up_to_close (map request_of es ++ more) ≡ map request_of es ++ up_to_close more
closes_behind [] more last is = refl
closes_behind (e ∷ []) more last is = goes_on e.request more is
closes_behind (e ∷ f ∷ es) more last is =
    goes_on e.request (map request_of (f ∷ es) ++ more) last.0 ∙ ap (λ (l : List Request). e.request ∷ l) (closes_behind (f ∷ es) more last.1 is)

module _ {X : Type 0} (entry_of : X → Entry) (is_own : X → Bool) (entered : Request → Request) (paced : List ℕ → Type 0) (conn : ℕ) (limits : LimitNumbers)
    (out out' : Option (List ℕ)) (ahead : Option (ℕ → ℕ)) (old new : Known X) (answered : ℕ) (texts : List RequestText) (left' : List ℕ) where
  -- what was served, where the source told that it had these requests
  abbrev Told : End → Type 0
  Told e = Served entry_of is_own entered paced conn limits (Some (flat_map print_text texts)) (Some left') out out' ahead old new answered e

  -- the requests that were taken are the front of all
  taken_front : (e : End) (served : Told e) → All IsComplete texts → IsFront served.requests.texts texts (served.rest ++ left')
  taken_front e served each =
      let takes = served.requests in
      front takes.texts texts (served.rest ++ left') takes.each each
      (sym (append_assoc (flat_map print_text takes.texts) served.rest left') ∙ ap (λ (l : List ℕ). l ++ left') (sym takes.whole) ∙ sym served.consumes)

  -- what was asked begins with the requests of the entries
  asked : (e : End) (served : Told e) (each : All IsComplete texts)
      → asked_in entered texts ≡ up_to_close (map request_of (map entry_of served.entries) ++ map (entered_in entered) (taken_front e served each).more)
  asked e served each =
      let fr = taken_front e served each in
      ap (asked_in entered) fr.whole
      ∙ ap up_to_close (map-append (entered_in entered) served.requests.texts fr.more ∙ ap (λ (l : List Request). l ++ map (entered_in entered) fr.more) (sym served.requests.decodes))

  -- the requests of the own entries that were added
  added : (e : End) (served : Told e) → map request_of (map entry_of (own_behind is_own old.seen new.seen)) ≡ map request_of (map entry_of served.entries)
  added e served = ap (λ (es : List X). map request_of (map entry_of es)) (grew-own is_own old new served.entries served.history)

  -- the last entry closes: it is the first request that does
  told_closed : (served : Told end.Done) → All IsComplete texts → is_closed (map entry_of served.entries) ≡ true
      → AnswersAll entered texts (map entry_of (own_behind is_own old.seen new.seen)) end.Done
  told_closed served each shut = record {
    done = refl;
    requests =
        added end.Done served
        ∙ sym (asked end.Done served each ∙ closes_there (map entry_of served.entries) (map (entered_in entered) (taken_front end.Done served each).more) served.closing shut);
  }

  -- none closes, and nothing more came
  told_all : (served : Told end.Done) → All IsComplete texts → is_closed (map entry_of served.entries) ≡ false → served.rest ≡ [] → left' ≡ []
      → AnswersAll entered texts (map entry_of (own_behind is_own old.seen new.seen)) end.Done
  told_all served each stays none at_end =
      let fr = taken_front end.Done served each in
      let es = map entry_of served.entries in
      let nothing : [] ≡ flat_map print_text fr.more = sym (known_end served.rest left' at_end ∙ none) ∙ fr.rest_is in
      let no_more : map (entered_in entered) fr.more ≡ [] = ap (map (entered_in entered)) (none_left fr.more fr.each nothing) in
      record {
        done = refl;
        requests =
            added end.Done served
            ∙ sym (asked end.Done served each ∙ closes_behind es (map (entered_in entered) fr.more) served.closing stays
            ∙ ap (λ (l : List Request). map request_of es ++ up_to_close l) no_more ∙ append-nil (map request_of es));
      }

  -- the end is want of memory, or says a limit, or all is answered
  abbrev IsTold : End → Type 0
  IsTold e = (e ≡ end.NoMemory) ⊎ ((e ≡ end.Spent) ⊎ (IsBusy e ⊎ AnswersAll entered texts (map entry_of (own_behind is_own old.seen new.seen)) e))

  told : (read read' written written' : ℕ) (e : End) → Told e → All IsComplete texts → ReadCounts read read' e → WriteCounts written written' e → ¬ Rose read read' → ¬ Rose written written'
      → IsTold e
  told read read' written written' end.Done served each reads writes no_read no_write = inr (inr (inr (by served.ends)))
    where
      by : (is_closed (map entry_of served.entries) ≡ true) ⊎ EndsDone (is_closed (map entry_of served.entries)) answered limits.requests_max served.rest (Some left')
          → AnswersAll entered texts (map entry_of (own_behind is_own old.seen new.seen)) end.Done
      by (inl shut) = told_closed served each shut
      by (inr ends) = told_all served each ends.goes_on.is_open ends.none ends.at_end
  told read read' written written' end.Spent served each reads writes no_read no_write = inr (inl refl)
  told read read' written written' (end.CutShort cut) served each reads writes no_read no_write =
      let fr = taken_front (end.CutShort cut) served each in
      let some : served.rest ≢ [] = λ none. omega (arith, served.ends.some, served.ends.cut_is, ap length none) in
      let whole : served.rest ++ [] ≡ flat_map print_text fr.more = ap (λ (l : List ℕ). served.rest ++ l) (sym served.ends.at_end) ∙ fr.rest_is in
      absurd ((faultless served.rest [] fr.more whole fr.each some).not_cut refl (unfinished_begins_none served.rest served.ends.unfinished))
  told read read' written written' (end.BadRequest bad) served each reads writes no_read no_write =
      let fr = taken_front (end.BadRequest bad) served each in
      let some : served.rest ≢ [] = λ none. omega (arith, served.ends.some, ap length none) in
      absurd ((faultless served.rest left' fr.more fr.rest_is fr.each some).not_bad bad served.ends.cause)
  told read read' written written' (end.Busy kind) served each reads writes no_read no_write = inr (inr (inl tt))
  told read read' written written' end.ReadFault served each reads writes no_read no_write = absurd (no_read reads)
  told read read' written written' end.WriteFault served each reads writes no_read no_write = absurd (no_write writes)
  told read read' written written' end.NoMemory served each reads writes no_read no_write = inl refl

-- the same, whatever the source tells afterwards
pub completes : {X : Type 0} (entry_of : X → Entry) (is_own : X → Bool) (entered : Request → Request) (paced : List ℕ → Type 0) (conn : ℕ) (limits : LimitNumbers) (left left' out out' : Option (List ℕ))
    (ahead : Option (ℕ → ℕ)) (read read' written written' : ℕ) (old new : Known X) (answered : ℕ) (e : End)
    → Served entry_of is_own entered paced conn limits left left' out out' ahead old new answered e → ReadCounts read read' e → WriteCounts written written' e
    → Completes entry_of is_own entered left read read' written written' old new e
completes entry_of is_own entered paced conn limits left left' out out' ahead read read' written written' old new answered e served reads writes = λ texts tells each no_read no_write.
    by_left texts left' (rw tells at served) each no_read no_write
  where
    by_left : (texts : List RequestText) (l : Option (List ℕ)) → Served entry_of is_own entered paced conn limits (Some (flat_map print_text texts)) l out out' ahead old new answered e
        → All IsComplete texts → ¬ Rose read read' → ¬ Rose written written'
        → (e ≡ end.NoMemory) ⊎ ((e ≡ end.Spent) ⊎ (IsBusy e ⊎ AnswersAll entered texts (map entry_of (own_behind is_own old.seen new.seen)) e))
    by_left texts None s each no_read no_write = absurd s.consumes
    by_left texts (Some l) s each no_read no_write =
        told entry_of is_own entered paced conn limits out out' ahead old new answered texts l read read' written written' e s each reads writes no_read no_write
