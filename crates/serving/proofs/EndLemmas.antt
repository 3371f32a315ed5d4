-- The causes read the other way.
use Rattle.std.proofs.Common.{◌≡◌, ◌≢◌, ◌⊎◌, inl, inr, ℕ, ◌<◌, ◌≤◌, Bool, true, false, List, [], ◌++◌, length, refl, sym, ap, ◌∙◌, subst, arith, append-nil, Option}
use Rattle.conn_io.specs.Crowded.{Crowded}
use Rattle.commit_journal.specs.Limits.{LimitNumbers}
use Rattle.http_front.specs.declared.limits.TheConstants.{HEAD_MOST}
use Rattle.http_front.specs.declared.answers.BadHttp.{BadHttp}
use Rattle.http_front.specs.declared.answers.BadHttp.TheVariants.{NoHead, HeadTooLong, TooManyHeaders, BadLength, NoLength, BodyTooLarge}
use Rattle.http_front.specs.Requests.{RequestText, print_text, Begins, BeginsWithNone}
use Rattle.http_front.specs.Reads.{IsBad, IsShown, IsHeadFault, IsUnfinished, HasOnlyLongHeads, BeginsWithHead}
use Rattle.http_front.proofs.TextLemmas.{print_text_some, print_request_some}
use Rattle.http_front.proofs.CauseLemmas.{one_fault, Begins-head, BeginsWithHead-append, bad_shows, unfinished_begins_none, unfinished_shows_none, complete_shows_none, head_fault, crowded_no_head, long_no_head, crowded_some}
use Rattle.namespace_model.specs.declared.request.Entry.{Entry}
use Rattle.serving.specs.declared.end.End.{End}
use Rattle.serving.specs.declared.end.End.TheVariants.{Done, Spent, CutShort, BadRequest, Busy, ReadFault, WriteFault, NoMemory}
use Rattle.serving.specs.Ends.{Ends, Forces, GoesOn}

-- bytes that begin with a request, or with a head that shows a fault, are some
text_some : (bytes : List ℕ) (t : RequestText) (behind : List ℕ) → Begins bytes t behind → bytes ≡ [] → ⊥
text_some bytes t behind begins none = omega (arith, print_text_some t behind begins.0, ap length begins.1, ap length none)

shown_some : (bytes : List ℕ) (bad : BadHttp) → IsShown bad bytes → bytes ≡ [] → ⊥
shown_some bytes bad shown none = omega (arith, print_request_some shown.head shown.rest shown.begins.reads.0, ap length shown.begins.reads.1, ap length none)

-- what a whole head shows is the cause that is answered
bad_is : (bytes : List ℕ) (bad other : BadHttp) → IsBad bad bytes → IsShown other bytes → bad ≡ other
bad_is bytes bad other cause shown =
    one_fault shown.head bad other
    (bad_shows bad bytes [] shown.head (shown.rest ++ []) cause (BeginsWithHead-append bytes [] shown.head shown.rest shown.begins)) shown.shows

-- unfinished bytes show no fault of a whole head
unfinished_fault : (bytes : List ℕ) (bad : BadHttp) → IsBad bad bytes → IsUnfinished bytes → IsHeadFault bad
unfinished_fault bytes NoHead is on = tt
unfinished_fault bytes TooManyHeaders is on = tt
unfinished_fault bytes HeadTooLong is on = tt
unfinished_fault bytes NoLength is on = absurd (unfinished_shows_none bytes NoLength is.head is.rest on is.begins is.shows)
unfinished_fault bytes BadLength is on = absurd (unfinished_shows_none bytes BadLength is.head is.rest on is.begins is.shows)
unfinished_fault bytes BodyTooLarge is on = absurd (unfinished_shows_none bytes BodyTooLarge is.head is.rest on is.begins is.shows)

-- nor do bytes with long heads alone, or crowded ones
long_fault : (bytes : List ℕ) (bad : BadHttp) → IsBad bad bytes → HasOnlyLongHeads bytes → IsHeadFault bad
long_fault bytes bad is only = head_fault bad bytes [] is (λ h rest is_there. long_no_head bytes only h rest (rw (append-nil bytes) at is_there))

crowded_fault : (bytes : List ℕ) (bad : BadHttp) → IsBad bad bytes → Crowded bytes → IsHeadFault bad
crowded_fault bytes bad is crowded = head_fault bad bytes [] is (λ h rest is_there. crowded_no_head bytes crowded h rest (rw (append-nil bytes) at is_there))

-- and unfinished bytes are no such ones
unfinished_long : (bytes : List ℕ) → IsUnfinished bytes → HEAD_MOST ≤ length bytes → HasOnlyLongHeads bytes → ⊥
unfinished_long bytes (inl awaits) long only = let no : ⊥ = omega (arith, long, awaits.short) in no
unfinished_long bytes (inr awaits) long only = long_no_head bytes only awaits.head awaits.rest awaits.begins

unfinished_crowded : (bytes : List ℕ) → IsUnfinished bytes → Crowded bytes → ⊥
unfinished_crowded bytes (inl awaits) crowded = awaits.not_crowded crowded
unfinished_crowded bytes (inr awaits) crowded = crowded_no_head bytes crowded awaits.head awaits.rest awaits.begins

-- the causes, read the other way
pub forces : (e : End) (closed : Bool) (answered : ℕ) (limits : LimitNumbers) (rest : List ℕ) (left : Option (List ℕ)) (journal : List Entry)
    → Ends e closed answered limits rest left journal → Forces closed answered limits rest e
forces Done closed answered limits rest left journal (inl is) = record {
  closing = λ shut. inl refl;
  spent = λ all stays. absurd (cc);
  done = λ goes none. inl refl;
  busy = λ goes text behind begins. let stays = goes.is_open in absurd (cc);
  cut_short = λ goes some on. let stays = goes.is_open in absurd (cc);
  long = λ goes long only. let stays = goes.is_open in absurd (cc);
  crowded = λ goes crowded. let stays = goes.is_open in absurd (cc);
  refused = λ goes bad shown. let stays = goes.is_open in absurd (cc);
}
forces Done closed answered limits rest left journal (inr ends) = record {
  closing = λ shut. inl refl;
  spent = λ all stays. absurd (omega (arith, ends.goes_on.short));
  done = λ goes none. inl refl;
  busy = λ goes text behind begins. absurd (text_some rest text behind begins ends.none);
  cut_short = λ goes some on. absurd (some ends.none);
  long = λ goes long only. absurd (omega (arith, long, ap length ends.none));
  crowded = λ goes crowded. absurd (omega (arith, crowded_some rest crowded, ap length ends.none));
  refused = λ goes bad shown. absurd (shown_some rest bad shown ends.none);
}
forces Spent closed answered limits rest left journal ends = record {
  closing = λ shut. let stays = ends.is_open in absurd (cc);
  spent = λ all stays. refl;
  done = λ goes none. absurd (omega (arith, goes.short, ends.all));
  busy = λ goes text behind begins. absurd (omega (arith, goes.short, ends.all));
  cut_short = λ goes some on. absurd (omega (arith, goes.short, ends.all));
  long = λ goes long only. absurd (omega (arith, goes.short, ends.all));
  crowded = λ goes crowded. absurd (omega (arith, goes.short, ends.all));
  refused = λ goes bad shown. absurd (omega (arith, goes.short, ends.all));
}
forces (CutShort cut) closed answered limits rest left journal ends = record {
  closing = λ shut. let stays = ends.goes_on.is_open in absurd (cc);
  spent = λ all stays. absurd (omega (arith, ends.goes_on.short));
  done = λ goes none. absurd (omega (arith, ends.some, ends.cut_is, ap length none));
  busy = λ goes text behind begins. absurd (unfinished_begins_none rest ends.unfinished text behind begins);
  cut_short = λ goes some on. inl (ap CutShort ends.cut_is);
  long = λ goes long only. absurd (unfinished_long rest ends.unfinished long only);
  crowded = λ goes crowded. absurd (unfinished_crowded rest ends.unfinished crowded);
  refused = λ goes bad shown. absurd (unfinished_shows_none rest bad shown.head shown.rest ends.unfinished shown.begins shown.shows);
}
forces (BadRequest bad) closed answered limits rest left journal ends = record {
  closing = λ shut. let stays = ends.goes_on.is_open in absurd (cc);
  spent = λ all stays. absurd (omega (arith, ends.goes_on.short));
  done = λ goes none. absurd (omega (arith, ends.some, ap length none));
  busy = λ goes text behind begins. absurd (ends.begins_with_none text behind begins);
  cut_short = λ goes some on. inr (inl (unfinished_fault rest bad ends.cause on));
  long = λ goes long only. inl (long_fault rest bad ends.cause only);
  crowded = λ goes crowded. inl (crowded_fault rest bad ends.cause crowded);
  refused = λ goes other shown. inl (ap BadRequest (bad_is rest bad other ends.cause shown));
}
forces (Busy kind) closed answered limits rest left journal ends = record {
  closing = λ shut. let stays = ends.goes_on.is_open in absurd (cc);
  spent = λ all stays. absurd (omega (arith, ends.goes_on.short));
  done = λ goes none. absurd (text_some rest ends.text ends.behind ends.begins none);
  busy = λ goes text behind begins. inl tt;
  cut_short = λ goes some on. absurd (unfinished_begins_none rest on ends.text ends.behind ends.begins);
  long = λ goes long only. absurd (long_no_head rest only ends.text.head (ends.text.body ++ ends.behind) (Begins-head rest ends.text ends.behind ends.begins));
  crowded = λ goes crowded. absurd (crowded_no_head rest crowded ends.text.head (ends.text.body ++ ends.behind) (Begins-head rest ends.text ends.behind ends.begins));
  refused = λ goes bad shown. absurd (complete_shows_none rest bad shown.head shown.rest ends.text ends.behind ends.begins shown.begins shown.shows);
}
forces ReadFault closed answered limits rest left journal ends = record {
  closing = λ shut. let stays = ends.is_open in absurd (cc);
  spent = λ all stays. absurd (omega (arith, ends.short));
  done = λ goes none. inr tt;
  busy = λ goes text behind begins. inr tt;
  cut_short = λ goes some on. inr (inr tt);
  long = λ goes long only. inr tt;
  crowded = λ goes crowded. inr tt;
  refused = λ goes bad shown. inr tt;
}
forces WriteFault closed answered limits rest left journal ends = record {
  closing = λ shut. inr refl;
  spent = λ all stays. absurd (omega arith);
  done = λ goes none. inr tt;
  busy = λ goes text behind begins. inr tt;
  cut_short = λ goes some on. inr (inr tt);
  long = λ goes long only. inr tt;
  crowded = λ goes crowded. inr tt;
  refused = λ goes bad shown. inr tt;
}
forces NoMemory closed answered limits rest left journal ends = record {
  closing = λ shut. let stays = ends.is_open in absurd (cc);
  spent = λ all stays. absurd (omega (arith, ends.short));
  done = λ goes none. inr tt;
  busy = λ goes text behind begins. inr tt;
  cut_short = λ goes some on. inr (inr tt);
  long = λ goes long only. inr tt;
  crowded = λ goes crowded. inr tt;
  refused = λ goes bad shown. inr tt;
}
