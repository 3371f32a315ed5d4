-- What each exit of serving owes, over plain variables.
use Rattle.std.proofs.Common.{◌≡◌, ℕ, ◌+◌, ◌<◌, ◌≤◌, inl, inr, Bool, true, false, List, [], ◌∷◌, ◌++◌, length, map, Option, Some, None, Ok, Err, refl, sym, ap, ◌∙◌, append_assoc, append-nil, length-append, arith}
use Rattle.std.specs.Prelude.{All}
use Rattle.std.specs.List.{concat}
use Rattle.std.specs.Io.KnownBytes.{Consumes, Appends}
use Rattle.std.proofs.KnownBytes.{Consumes-nil, Consumes-trans, Appends-nil, Appends-trans}
use Rattle.std.proofs.lemmas.List.{length-map, map-append}
use Rattle.std.proofs.lemmas.List.Folds.{concat-append}
use Rattle.std.proofs.lemmas.List.Elements.{All-nil}
use Rattle.conn_io.specs.Moments.{HasTicked}
use Rattle.commit_journal.specs.Limits.{LimitNumbers}
use Rattle.commit_journal.specs.declared.limits.Full.{Full}
use Rattle.http_front.specs.declared.raw.Raw.{Raw}
use Rattle.http_front.specs.declared.answers.FrontFault.{FrontFault}
use Rattle.http_front.specs.declared.answers.FrontFault.TheVariants as fault
use Rattle.http_front.specs.declared.answers.Next.TheVariants as next
use Rattle.http_front.specs.Requests.{RequestText, IsComplete, raw_of}
use Rattle.http_front.specs.Reads.{Reads, Counts}
use Rattle.namespace_model.specs.declared.request.Request.{Request}
use Rattle.namespace_model.specs.declared.request.Entry.{Entry}
use Rattle.op_decode.specs.Decoded.{decoded}
use Rattle.reply_text.specs.declared.last.Last.TheVariants as last
use Rattle.serving.specs.declared.end.End.{End}
use Rattle.serving.specs.declared.end.End.TheVariants as end
use Rattle.serving.specs.declared.refusal.SubmitRefusal.{SubmitRefusal}
use Rattle.serving.specs.declared.refusal.SubmitRefusal.TheVariants as refusal
use Rattle.serving.specs.Answered.{Answered, IsFullOf, HasFull}
use Rattle.serving.specs.Ends.{Ends, EndsBusy, Forces, GoesOn, ReadCounts, WriteCounts, last_text}
use Rattle.serving.specs.Known.{Known, HasItsOwn, Grew, own_texts}
use Rattle.serving.specs.Moments.{Asks, Paced}
use Rattle.serving.specs.Refuses.{RefusesBytes, RefusesRequest}
use Rattle.serving.specs.Served.{Served, TakesRequests, IsPlaced, ArePlaced, ClosesLast, is_closed, IsWritten, Writes}
use Rattle.serving.specs.Written.{BreaksOff}
use Rattle.serving.proofs.EndLemmas.{forces}
use Rattle.serving.proofs.EntryLemmas.{StaysOpen, takes-more, takes-request, placed-push, open-push, closes-last, none-closed, closes-last-push, closed-push}
use Rattle.serving.proofs.KnownLemmas.{grew-none, grew-more, grew-others, own_texts-more, own_texts-many, own_texts-none, own_texts-others}
use Rattle.serving.proofs.MomentLemmas.{ticked-none, ticked-more, foretold-later, PacedTo, paced-push, paced}
use Rattle.serving.proofs.ServingInvariant.{Serving}

-- fewer than may be were answered, and none closed the connection
goes : (answered most : ℕ) → answered < most → GoesOn false answered most
goes answered most short = record { short = short; is_open = refl }

-- nothing was written
silent : (replies : List (List ℕ)) (count : ℕ) (e : End) → last_text e ≡ [] → length replies ≡ count → IsWritten e count (concat replies ++ []) replies
silent replies count e none same = record { bytes = ap (λ (l : List ℕ). concat replies ++ l) (sym none); all = sym same }

-- a raw request has the body of its text
raw-body : (raw : Raw) (text : RequestText) → raw ≡ raw_of text → length raw.body ≡ length text.body
unfolding raw_of
raw-body raw text is = ap (λ (r : Raw). length r.body) is

-- the source's count at the end that a fault brings
pub fault_reads : (first before now : ℕ) (out out' : Option (List ℕ)) (f : FrontFault) (e : End) → before ≡ first → Counts {T = Unit {0}} before now (Err f) → RefusesBytes out out' f e
    → ReadCounts first now e
fault_reads first before now out out' (fault.Bad bad) (end.BadRequest answered) same counts refuses = counts ∙ same
fault_reads first before now out out' (fault.Bad bad) end.WriteFault same counts refuses = counts ∙ same
fault_reads first before now out out' (fault.Bad bad) end.NoMemory same counts refuses = counts ∙ same
fault_reads first before now out out' (fault.CutShort n) (end.CutShort cut) same counts refuses = counts ∙ same
fault_reads first before now out out' fault.ReadFault end.ReadFault same counts refuses = rw (← same) counts.1
fault_reads first before now out out' fault.NoMemory end.NoMemory same counts refuses = counts ∙ same
fault_reads first before now out out' f e same counts refuses = absurd refuses

-- and at the end that a refused request brings
pub refusal_reads : (before now : ℕ) (out out' : Option (List ℕ)) (r : SubmitRefusal) (e : End) → now ≡ before → RefusesRequest out out' r e → ReadCounts before now e
refusal_reads before now out out' (refusal.Full kind) (end.Busy answered) same refuses = same
refusal_reads before now out out' (refusal.Full kind) end.WriteFault same refuses = same
refusal_reads before now out out' (refusal.Full kind) end.NoMemory same refuses = same
refusal_reads before now out out' refusal.NoMemory end.NoMemory same refuses = same
refusal_reads before now out out' r e same refuses = absurd refuses

module _ {X : Type 0} (entry_of : X → Entry) (is_own : X → Bool) (entered : Request → Request) (rule : ℕ → ℕ → Type 0) (conn : ℕ) (limits : LimitNumbers)
    (left out : Option (List ℕ)) (ahead : Option (ℕ → ℕ)) (old : Known X) where
  -- nothing was read, answered or written yet
  pub serving-start : (kept : List ℕ) → kept ≡ [] → HasItsOwn is_own old → Serving entry_of is_own entered rule conn left left out out ahead ahead kept old old 0
  serving-start kept none own =
      let grew = grew-none is_own old own in
      let no_texts = own_texts-none is_own entry_of old old grew in
      record {
        taken = [];
        entries = [];
        asked = [];
        asks = 0;
        consumes = Consumes-nil left;
        appends = rw no_texts (Appends-nil out);
        requests = record { texts = []; whole = sym none; each = All-nil IsComplete; decodes = refl };
        placed = tt;
        pace = refl;
        history = grew;
        open_so_far = All-nil StaysOpen;
        ticked = ticked-none ahead;
        count_is = refl;
      }

  -- The end of a connection that no request closed, at which nothing further was written but a last reply. Others may have added to the journal.
  ended : (left' left'' out' out'' : Option (List ℕ)) (ahead' : Option (ℕ → ℕ)) (kept more last : List ℕ) (now new : Known X) (count : ℕ) (e : End)
      → Serving entry_of is_own entered rule conn left left' out out' ahead ahead' kept old now count → Grew is_own now new [] → Consumes left' left'' more → Appends out' out'' last
      → count ≤ limits.requests_max
      → ((replies : List (List ℕ)) → length replies ≡ count → Writes e false count limits (concat replies ++ last) replies (kept ++ more) (map entry_of new.seen))
      → Ends e false count limits (kept ++ more) left'' (map entry_of new.seen)
      → Served entry_of is_own entered (Paced rule 0) conn limits left left'' out out'' ahead old new count e
  ended left' left'' out' out'' ahead' kept more last now new count e so_far others read wrote few writes ends =
      let own_entries = map entry_of so_far.entries in
      let stays : is_closed own_entries ≡ false = none-closed own_entries so_far.open_so_far in
      let grew = grew-others is_own old now new so_far.entries so_far.history others in
      let replies = own_texts entry_of is_own old.seen new.seen in
      let same = own_texts-others is_own entry_of old now new so_far.entries so_far.history others in
      let many : length replies ≡ count = own_texts-many is_own entry_of old new so_far.entries grew ∙ so_far.count_is in
      record {
        taken = so_far.taken ++ more;
        written = concat replies ++ last;
        entries = so_far.entries;
        asked = so_far.asked;
        rest = kept ++ more;
        consumes = Consumes-trans left left' left'' so_far.taken more so_far.consumes read;
        appends = Appends-trans out out' out'' (concat replies) last (rw same so_far.appends) wrote;
        requests = takes-more entered so_far.taken kept more own_entries so_far.requests;
        placed = so_far.placed;
        pace = paced rule 0 so_far.asked so_far.asks so_far.pace;
        history = grew;
        text = rw stays (writes replies many);
        closing = closes-last own_entries so_far.open_so_far;
        few = omega (arith, so_far.count_is);
        ends = rw stays ends;
        forces = rw stays (forces e false count limits (kept ++ more) left'' (map entry_of new.seen) ends);
      }

  -- every request was answered
  pub spent : (left' out' : Option (List ℕ)) (ahead' : Option (ℕ → ℕ)) (kept : List ℕ) (now : Known X) (count : ℕ)
      → Serving entry_of is_own entered rule conn left left' out out' ahead ahead' kept old now count → count ≡ limits.requests_max
      → Served entry_of is_own entered (Paced rule 0) conn limits left left' out out' ahead old now count end.Spent
  spent left' out' ahead' kept now count so_far all =
      ended left' left' out' out' ahead' kept [] [] now now count end.Spent so_far (grew-none is_own now so_far.history.all_mine) (Consumes-nil left') (Appends-nil out') (omega arith)
      (λ replies same. silent replies count end.Spent refl same) (record { all = all; is_open = refl })

  -- the source was at its end between two requests
  pub done : (left' left'' out' : Option (List ℕ)) (ahead' : Option (ℕ → ℕ)) (kept kept' : List ℕ) (now : Known X) (count : ℕ)
      → Serving entry_of is_own entered rule conn left left' out out' ahead ahead' kept old now count → count < limits.requests_max → Reads left' left'' kept kept' (Ok next.Ended)
      → Served entry_of is_own entered (Paced rule 0) conn limits left left'' out out' ahead old now count end.Done
  done left' left'' out' ahead' kept kept' now count so_far short reads =
      ended left' left'' out' out' ahead' kept reads.taken [] now now count end.Done so_far (grew-none is_own now so_far.history.all_mine) reads.consumes (Appends-nil out') (omega arith)
      (λ replies same. silent replies count end.Done refl same)
      (inr (record { goes_on = goes count limits.requests_max short; none = reads.answers.none; at_end = reads.answers.at_end }))

  -- the reader met a fault
  pub refused : (left' left'' out' out'' : Option (List ℕ)) (ahead' : Option (ℕ → ℕ)) (kept kept' : List ℕ) (now : Known X) (count : ℕ) (f : FrontFault) (e : End)
      → Serving entry_of is_own entered rule conn left left' out out' ahead ahead' kept old now count → count < limits.requests_max → Reads left' left'' kept kept' (Err f)
      → RefusesBytes out' out'' f e → Served entry_of is_own entered (Paced rule 0) conn limits left left'' out out'' ahead old now count e
  refused left' left'' out' out'' ahead' kept kept' now count (fault.Bad bad) (end.BadRequest answered) so_far short reads refuses =
      rw refuses.0 (ended left' left'' out' out'' ahead' kept reads.taken _ now now count (end.BadRequest bad) so_far (grew-none is_own now so_far.history.all_mine) reads.consumes refuses.1 (omega arith)
      (λ replies same. record { bytes = refl; all = sym same })
      (record { goes_on = goes count limits.requests_max short; some = reads.answers.some; begins_with_none = reads.answers.begins_with_none; cause = reads.answers.cause }))
  refused left' left'' out' out'' ahead' kept kept' now count (fault.Bad bad) end.WriteFault so_far short reads refuses =
      ended left' left'' out' out'' ahead' kept reads.taken _ now now count end.WriteFault so_far (grew-none is_own now so_far.history.all_mine) reads.consumes refuses.appends (omega arith)
      (λ replies same. inr (record {
        last = last.Bad bad;
        front = refuses.front;
        missing = refuses.missing;
        last_is = refuses.whole;
        some_missing = refuses.some_missing;
        bytes = refl;
        all = sym same;
        cause = record { goes_on = goes count limits.requests_max short; some = reads.answers.some; begins_with_none = reads.answers.begins_with_none; cause = reads.answers.cause };
      }))
      short
  refused left' left'' out' out'' ahead' kept kept' now count (fault.Bad bad) end.NoMemory so_far short reads refuses =
      ended left' left'' out' out'' ahead' kept reads.taken [] now now count end.NoMemory so_far (grew-none is_own now so_far.history.all_mine) reads.consumes refuses (omega arith)
      (λ replies same. silent replies count end.NoMemory refl same) (goes count limits.requests_max short)
  refused left' left'' out' out'' ahead' kept kept' now count (fault.CutShort n) (end.CutShort cut) so_far short reads refuses =
      ended left' left'' out' out'' ahead' kept reads.taken [] now now count (end.CutShort cut) so_far (grew-none is_own now so_far.history.all_mine) reads.consumes refuses.1 (omega arith)
      (λ replies same. silent replies count (end.CutShort cut) refl same)
      (record {
        goes_on = goes count limits.requests_max short;
        cut_is = refuses.0 ∙ reads.answers.count_is;
        some = omega (arith, refuses.0, reads.answers.some);
        unfinished = reads.answers.unfinished;
        at_end = reads.answers.at_end;
      })
  refused left' left'' out' out'' ahead' kept kept' now count fault.ReadFault end.ReadFault so_far short reads refuses =
      ended left' left'' out' out'' ahead' kept reads.taken [] now now count end.ReadFault so_far (grew-none is_own now so_far.history.all_mine) reads.consumes refuses (omega arith)
      (λ replies same. silent replies count end.ReadFault refl same) (goes count limits.requests_max short)
  refused left' left'' out' out'' ahead' kept kept' now count fault.NoMemory end.NoMemory so_far short reads refuses =
      ended left' left'' out' out'' ahead' kept reads.taken [] now now count end.NoMemory so_far (grew-none is_own now so_far.history.all_mine) reads.consumes refuses (omega arith)
      (λ replies same. silent replies count end.NoMemory refl same) (goes count limits.requests_max short)
  refused left' left'' out' out'' ahead' kept kept' now count f e so_far short reads refuses = absurd refuses

  -- a request was taken, and not answered
  pub turned_away : (left' left'' out' out'' : Option (List ℕ)) (ahead' : Option (ℕ → ℕ)) (kept kept' : List ℕ) (now new : Known X) (count : ℕ) (raw : Raw) (r : SubmitRefusal) (e : End)
      → Serving entry_of is_own entered rule conn left left' out out' ahead ahead' kept old now count → count < limits.requests_max → Reads left' left'' kept kept' (Ok (next.Request raw))
      → Grew is_own now new [] → HasFull r (map entry_of new.seen) limits (length raw.body) → RefusesRequest out' out'' r e
      → Served entry_of is_own entered (Paced rule 0) conn limits left left'' out out'' ahead old new count e
  turned_away left' left'' out' out'' ahead' kept kept' now new count raw (refusal.Full kind) (end.Busy answered) so_far short reads others full refuses =
      rw refuses.0 (ended left' left'' out' out'' ahead' kept reads.taken _ now new count (end.Busy kind) so_far others reads.consumes refuses.1 (omega arith)
      (λ replies same. record { bytes = refl; all = sym same })
      (record {
        goes_on = goes count limits.requests_max short;
        text = reads.answers.text;
        behind = kept';
        begins = (reads.answers.complete, reads.answers.whole);
        full = rw (raw-body raw reads.answers.text reads.answers.is_raw) at full;
      }))
  turned_away left' left'' out' out'' ahead' kept kept' now new count raw (refusal.Full kind) end.WriteFault so_far short reads others full refuses =
      ended left' left'' out' out'' ahead' kept reads.taken _ now new count end.WriteFault so_far others reads.consumes refuses.appends (omega arith)
      (λ replies same. inr (record {
        last = last.Busy;
        front = refuses.front;
        missing = refuses.missing;
        last_is = refuses.whole;
        some_missing = refuses.some_missing;
        bytes = refl;
        all = sym same;
        cause = (
          kind,
          record {
            goes_on = goes count limits.requests_max short;
            text = reads.answers.text;
            behind = kept';
            begins = (reads.answers.complete, reads.answers.whole);
            full = rw (raw-body raw reads.answers.text reads.answers.is_raw) at full;
          },
        );
      }))
      short
  turned_away left' left'' out' out'' ahead' kept kept' now new count raw (refusal.Full kind) end.NoMemory so_far short reads others full refuses =
      ended left' left'' out' out'' ahead' kept reads.taken [] now new count end.NoMemory so_far others reads.consumes refuses (omega arith)
      (λ replies same. silent replies count end.NoMemory refl same) (goes count limits.requests_max short)
  turned_away left' left'' out' out'' ahead' kept kept' now new count raw refusal.NoMemory end.NoMemory so_far short reads others full refuses =
      ended left' left'' out' out'' ahead' kept reads.taken [] now new count end.NoMemory so_far others reads.consumes refuses (omega arith)
      (λ replies same. silent replies count end.NoMemory refl same) (goes count limits.requests_max short)
  turned_away left' left'' out' out'' ahead' kept kept' now new count raw r e so_far short reads others full refuses = absurd refuses

  -- a request was taken and answered
  record IsTurn (left'' : Option (List ℕ)) (kept' : List ℕ) (new : Known X) (ahead'' : Option (ℕ → ℕ)) (count : ℕ) (replies : List (List ℕ)) (text : List ℕ) (closes : Bool) : Type 0 where
    taken : List ℕ
    entries : List X
    asked : List ℕ
    asks : ℕ
    consumes : Consumes left left'' taken
    requests : TakesRequests entered taken (map entry_of entries) kept'
    placed : ArePlaced ahead conn 0 asked (map entry_of entries)
    pace : PacedTo rule 0 asked asks
    history : Grew is_own old new entries
    grown : own_texts entry_of is_own old.seen new.seen ≡ replies ++ text ∷ []
    closing : ClosesLast (map entry_of entries)
    closed_is : is_closed (map entry_of entries) ≡ closes
    stays_open : closes ≡ false → All StaysOpen (map entry_of entries)
    ticked : HasTicked ahead ahead'' asks
    count_is : length entries ≡ count + 1

  turn : (left' left'' out' : Option (List ℕ)) (ahead' ahead'' : Option (ℕ → ℕ)) (kept kept' : List ℕ) (now then : Known X) (count : ℕ) (raw : Raw) (text : List ℕ)
      → Serving entry_of is_own entered rule conn left left' out out' ahead ahead' kept old now count → Reads left' left'' kept kept' (Ok (next.Request raw))
      → Answered entry_of is_own entered rule conn now then ahead' ahead'' count (decoded raw) text
      → IsTurn left'' kept' then ahead'' count (own_texts entry_of is_own old.seen now.seen) text (decoded raw).close
  turn left' left'' out' ahead' ahead'' kept kept' now then count raw text so_far reads answered =
      let t = reads.answers.text in
      let x = answered.entry in
      let e = entry_of x in
      let es = map entry_of so_far.entries in
      let k = so_far.asks + answered.answer in
      let pushed : map entry_of (so_far.entries ++ x ∷ []) ≡ es ++ e ∷ [] = map-append entry_of so_far.entries (x ∷ []) in
      let is_decoded = answered.asks ∙ ap (λ (r : Raw). entered (decoded r)) reads.answers.is_raw in
      let closes_is : e.request.close ≡ (decoded raw).close = answered.closes in
      let place : length es + 0 ≡ count = omega (arith, so_far.count_is, length-map so_far.entries entry_of) in
      let is_placed : IsPlaced ahead conn count k e = record { on = answered.on; index = answered.place; moment = foretold-later ahead ahead' so_far.asks answered.answer e.moment so_far.ticked answered.moment; in_range = answered.in_range } in
      let asks : Asks rule so_far.asks k (so_far.asks + answered.times) = record { answer = answered.answer; times = answered.times; ruled = answered.ruled; place = refl; next_is = refl } in
      record {
        taken = so_far.taken ++ reads.taken;
        entries = so_far.entries ++ x ∷ [];
        asked = so_far.asked ++ k ∷ [];
        asks = so_far.asks + answered.times;
        consumes = Consumes-trans left left' left'' so_far.taken reads.taken so_far.consumes reads.consumes;
        requests = rw pushed (takes-request entered (so_far.taken ++ reads.taken) (kept ++ reads.taken) kept' es t e (takes-more entered so_far.taken kept reads.taken es so_far.requests) reads.answers.complete reads.answers.whole is_decoded);
        placed = rw pushed (placed-push ahead conn 0 so_far.asked k es e so_far.placed (rw place is_placed));
        pace = paced-push rule 0 so_far.asked so_far.asks k (so_far.asks + answered.times) so_far.pace asks;
        history = grew-more is_own old now then so_far.entries (x ∷ []) so_far.history answered.history;
        grown =
            own_texts-more is_own entry_of old now then so_far.entries (x ∷ []) so_far.history answered.history
            ∙ ap (λ (l : List (List ℕ)). own_texts entry_of is_own old.seen now.seen ++ l) answered.text_is;
        closing = rw pushed (closes-last-push es e so_far.open_so_far);
        closed_is = ap is_closed pushed ∙ closed-push es e ∙ closes_is;
        stays_open = λ stays. rw pushed (open-push es e so_far.open_so_far (closes_is ∙ stays));
        ticked = ticked-more ahead ahead' ahead'' so_far.asks answered.times so_far.ticked answered.ticked;
        count_is = omega (arith, length-append so_far.entries (x ∷ []), so_far.count_is);
      }

  -- its reply did not go out whole
  pub cut_off : (left' left'' out' out'' : Option (List ℕ)) (ahead' ahead'' : Option (ℕ → ℕ)) (kept kept' : List ℕ) (now then : Known X) (count : ℕ) (raw : Raw) (text : List ℕ)
      → Serving entry_of is_own entered rule conn left left' out out' ahead ahead' kept old now count → count < limits.requests_max → Reads left' left'' kept kept' (Ok (next.Request raw))
      → Answered entry_of is_own entered rule conn now then ahead' ahead'' count (decoded raw) text → BreaksOff out' out'' text
      → Served entry_of is_own entered (Paced rule 0) conn limits left left'' out out'' ahead old then count end.WriteFault
  cut_off left' left'' out' out'' ahead' ahead'' kept kept' now then count raw text so_far short reads answered breaks =
      let more = turn left' left'' out' ahead' ahead'' kept kept' now then count raw text so_far reads answered in
      let replies = own_texts entry_of is_own old.seen now.seen in
      record {
        taken = more.taken;
        written = concat replies ++ breaks.front;
        entries = more.entries;
        asked = more.asked;
        rest = kept';
        consumes = more.consumes;
        appends = Appends-trans out out' out'' (concat replies) breaks.front so_far.appends breaks.appends;
        requests = more.requests;
        placed = more.placed;
        pace = paced rule 0 more.asked more.asks more.pace;
        history = more.history;
        text = inl (record {
          whole = replies;
          last = text;
          front = breaks.front;
          missing = breaks.missing;
          replies_are = more.grown;
          last_is = breaks.whole;
          some_missing = breaks.some_missing;
          bytes = refl;
          all_but_one = sym (own_texts-many is_own entry_of old now so_far.entries so_far.history ∙ so_far.count_is);
        });
        closing = more.closing;
        few = omega (arith, more.count_is);
        ends = short;
        forces = forces end.WriteFault (is_closed (map entry_of more.entries)) count limits kept' left'' (map entry_of then.seen) short;
      }

  -- its reply is out behind those before
  spelled : (out' out'' : Option (List ℕ)) (replies grown : List (List ℕ)) (text : List ℕ) → Appends out out' (concat replies) → Appends out' out'' text
      → grown ≡ replies ++ text ∷ [] → Appends out out'' (concat grown)
  spelled out' out'' replies grown text before wrote is =
      let whole : concat grown ≡ concat replies ++ text =
      ap concat is ∙ concat-append replies (text ∷ []) ∙ ap (λ (l : List ℕ). concat replies ++ l) (append-nil text) in
      rw whole (Appends-trans out out' out'' (concat replies) text before wrote)

  -- its reply is out, and it asked for the connection to be closed
  pub closed : (left' left'' out' out'' : Option (List ℕ)) (ahead' ahead'' : Option (ℕ → ℕ)) (kept kept' : List ℕ) (now then : Known X) (count : ℕ) (raw : Raw) (text : List ℕ)
      → Serving entry_of is_own entered rule conn left left' out out' ahead ahead' kept old now count → count < limits.requests_max → Reads left' left'' kept kept' (Ok (next.Request raw))
      → Answered entry_of is_own entered rule conn now then ahead' ahead'' count (decoded raw) text → Appends out' out'' text → (decoded raw).close ≡ true
      → Served entry_of is_own entered (Paced rule 0) conn limits left left'' out out'' ahead old then (count + 1) end.Done
  closed left' left'' out' out'' ahead' ahead'' kept kept' now then count raw text so_far short reads answered wrote closing =
      let more = turn left' left'' out' ahead' ahead'' kept kept' now then count raw text so_far reads answered in
      let shut : is_closed (map entry_of more.entries) ≡ true = more.closed_is ∙ closing in
      let replies = own_texts entry_of is_own old.seen then.seen in
      record {
        taken = more.taken;
        written = concat replies;
        entries = more.entries;
        asked = more.asked;
        rest = kept';
        consumes = more.consumes;
        appends = spelled out' out'' (own_texts entry_of is_own old.seen now.seen) replies text so_far.appends wrote more.grown;
        requests = more.requests;
        placed = more.placed;
        pace = paced rule 0 more.asked more.asks more.pace;
        history = more.history;
        text = record {
          bytes = sym (append-nil (concat replies));
          all = sym (own_texts-many is_own entry_of old then more.entries more.history ∙ more.count_is);
        };
        closing = more.closing;
        few = omega (arith, more.count_is);
        ends = inl shut;
        forces = forces end.Done (is_closed (map entry_of more.entries)) (count + 1) limits kept' left'' (map entry_of then.seen) (inl shut);
      }

  -- its reply is out, and serving goes on
  pub next_turn : (left' left'' out' out'' : Option (List ℕ)) (ahead' ahead'' : Option (ℕ → ℕ)) (kept kept' : List ℕ) (now then : Known X) (count : ℕ) (raw : Raw) (text : List ℕ)
      → Serving entry_of is_own entered rule conn left left' out out' ahead ahead' kept old now count → Reads left' left'' kept kept' (Ok (next.Request raw))
      → Answered entry_of is_own entered rule conn now then ahead' ahead'' count (decoded raw) text → Appends out' out'' text → (decoded raw).close ≡ false
      → Serving entry_of is_own entered rule conn left left'' out out'' ahead ahead'' kept' old then (count + 1)
  next_turn left' left'' out' out'' ahead' ahead'' kept kept' now then count raw text so_far reads answered wrote stays =
      let more = turn left' left'' out' ahead' ahead'' kept kept' now then count raw text so_far reads answered in
      record {
        taken = more.taken;
        entries = more.entries;
        asked = more.asked;
        asks = more.asks;
        consumes = more.consumes;
        appends = spelled out' out'' (own_texts entry_of is_own old.seen now.seen) (own_texts entry_of is_own old.seen then.seen) text so_far.appends wrote more.grown;
        requests = more.requests;
        placed = more.placed;
        pace = more.pace;
        history = more.history;
        open_so_far = more.stays_open stays;
        ticked = more.ticked;
        count_is = more.count_is;
      }

  -- a connection that was not begun for want of memory
  pub not_begun : HasItsOwn is_own old → 0 < limits.requests_max → Served entry_of is_own entered (Paced rule 0) conn limits left left out out ahead old old 0 end.NoMemory
  not_begun own some =
      ended left left out out ahead [] [] [] old old 0 end.NoMemory (serving-start [] refl own) (grew-none is_own old own) (Consumes-nil left) (Appends-nil out) (omega arith)
      (λ replies same. silent replies 0 end.NoMemory refl same) (goes 0 limits.requests_max some)
