-- The invariant of serving: every request so far is answered, its reply is out, and none closed the connection.
use Rattle.std.proofs.Common.{◌≡◌, ℕ, Bool, List, ◌++◌, length, map, Option}
use Rattle.std.specs.Prelude.{All}
use Rattle.std.specs.List.{concat}
use Rattle.std.specs.Io.KnownBytes.{Consumes, Appends}
use Rattle.conn_io.specs.Moments.{HasTicked}
use Rattle.namespace_model.specs.declared.request.Request.{Request}
use Rattle.namespace_model.specs.declared.request.Entry.{Entry}
use Rattle.serving.specs.Known.{Known, Grew, own_texts}
use Rattle.serving.specs.Served.{TakesRequests, ArePlaced}
use Rattle.serving.proofs.EntryLemmas.{StaysOpen}
use Rattle.serving.proofs.MomentLemmas.{PacedTo}

pub record Serving {X : Type 0} (entry_of : X → Entry) (is_own : X → Bool) (entered : Request → Request) (rule : ℕ → ℕ → Type 0) (conn : ℕ) (left left' out out' : Option (List ℕ))
    (ahead ahead' : Option (ℕ → ℕ)) (kept : List ℕ) (old new : Known X) (count : ℕ) : Type 0 where
  pub taken : List ℕ
  pub entries : List X
  pub asked : List ℕ
  pub asks : ℕ
  pub consumes : Consumes left left' taken
  pub appends : Appends out out' (concat (own_texts entry_of is_own old.seen new.seen))
  pub requests : TakesRequests entered taken (map entry_of entries) kept
  pub placed : ArePlaced ahead conn 0 asked (map entry_of entries)
  pub pace : PacedTo rule 0 asked asks
  pub history : Grew is_own old new entries
  pub open_so_far : All StaysOpen (map entry_of entries)
  pub ticked : HasTicked ahead ahead' asks
  pub count_is : length entries ≡ count
