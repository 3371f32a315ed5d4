-- Completeness: what is asked is answered.
use Rattle.std.specs.Prelude.{◌≡◌, ◌⊎◌, ℕ, Bool, List, [], ◌∷◌, map, All, Option, Some, if◌then◌else◌}
use Rattle.std.specs.List.{flat_map}
use Rattle.conn_io.specs.Causes.{Rose}
use Rattle.http_front.specs.Requests.{RequestText, print_text, IsComplete}
use Rattle.namespace_model.specs.declared.request.Request.{Request}
use Rattle.namespace_model.specs.declared.request.Entry.{Entry}
use Rattle.serving.specs.declared.end.End.{End}
use Rattle.serving.specs.declared.end.End.TheVariants.{Done, Spent, NoMemory}
use Rattle.serving.specs.Ends.{IsBusy}
use Rattle.serving.specs.Known.{Known, own_behind}
use Rattle.serving.specs.Served.{request_of, entered_in}

-- the requests up to and with the first that asks for the connection to be closed, all of them where none does
abbrev pub up_to_close : List Request → List Request
up_to_close [] = []
up_to_close (r ∷ rs) = r ∷ (if r.close then [] else up_to_close rs)

-- the requests of the texts up to and with the first that closes
abbrev pub asked_in : (Request → Request) → List RequestText → List Request
asked_in entered texts = up_to_close (map (entered_in entered) texts)

-- the requests of the texts up to and with the first that closes were answered, and there the connection ended
pub record AnswersAll (entered : Request → Request) (texts : List RequestText) (entries : List Entry) (end : End) : Type 0 where
  pub done : end ≡ Done
  pub requests : map request_of entries ≡ asked_in entered texts

-- Where the source tells that it has complete requests and nothing else, and neither count rose, then there was no memory, or a limit was
-- met, which the end says, or every request up to and with the first that closes was answered.
abbrev pub Completes : {X : Type 0} → (X → Entry) → (X → Bool) → (Request → Request) → (left : Option (List ℕ)) → (read read' written written' : ℕ) → (old new : Known X)
    → End → Type 0
Completes entry_of is_own entered left read read' written written' old new end =
    (texts : List RequestText) → left ≡ Some (flat_map print_text texts) → All IsComplete texts → ¬ Rose read read' → ¬ Rose written written'
    → (end ≡ NoMemory) ⊎ ((end ≡ Spent) ⊎ (IsBusy end ⊎ AnswersAll entered texts (map entry_of (own_behind is_own old.seen new.seen)) end))
