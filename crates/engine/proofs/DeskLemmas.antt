-- What one submit gives the desk of a sequential engine.
use Rattle.std.proofs.Common.{ℕ, ◌≤◌, [], ◌∷◌, Option, refl}
use Rattle.conn_io.specs.Moments.{Ticks}
use Rattle.lease_state.specs.declared.lease.TheConstants.{LAST_MOMENT}
use Rattle.namespace_model.specs.declared.request.Entry.{Entry}
use Rattle.namespace_model.specs.declared.request.Request.{Request}
use Rattle.engine.specs.Solos.{SoloView, as_asked}
use Rattle.engine.specs.Submits.{Submits}
use Rattle.engine.specs.declared.solo.Answer.{Answer}
use Rattle.serving.specs.Answered.{Answered}
use Rattle.serving.specs.Moments.{AsksOnce}
use Rattle.serving.specs.Served.{itself, all_own, known_alone}
use Rattle.serving.proofs.AloneLemmas.{alone-grew, alone-text, ticked-once, foretold-once}

-- an entry with its text and its moment
pub submit_answers : (old new : SoloView) (ahead ahead' : Option (ℕ → ℕ)) (index moment : ℕ) (request : Request) (answer : Answer)
    → Submits old new (record { conn = 0; index = index; moment = moment; request = request }) answer → Ticks ahead ahead' moment → moment ≤ LAST_MOMENT
    → Answered itself all_own as_asked AsksOnce 0 (known_alone old.entries) (known_alone new.entries) ahead ahead' index request answer.bytes.items
submit_answers old new ahead ahead' index moment request answer submits ticks range =
    let e : Entry = record { conn = 0; index = index; moment = moment; request = request } in
    record {
      entry = e;
      answer = 0;
      times = 1;
      asks = refl;
      closes = refl;
      on = refl;
      place = refl;
      moment = foretold-once ahead ahead' moment ticks;
      in_range = range;
      ruled = (refl, refl);
      ticked = ticked-once ahead ahead' moment ticks;
      history = alone-grew old.entries new.entries (e ∷ []) submits.journal;
      text_is = alone-text old.entries new.entries e answer.bytes.items submits.journal submits.text;
    }
