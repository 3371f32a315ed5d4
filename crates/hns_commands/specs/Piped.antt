-- What `hns pipe` does.
use Rattle.std.specs.Prelude.{◌≡◌, ℕ, List, [], Option}
use Rattle.commit_journal.specs.Limits.{LimitNumbers}
use Rattle.engine.specs.Solos.{as_asked}
use Rattle.namespace_model.specs.declared.request.Entry.{Entry}
use Rattle.serving.specs.declared.end.End.{End}
use Rattle.serving.specs.declared.end.End.TheVariants.{Done, Spent, CutShort, BadRequest, Busy, ReadFault, WriteFault, NoMemory}
use Rattle.serving.specs.Completes.{Completes}
use Rattle.serving.specs.Ends.{ReadCounts, WriteCounts}
use Rattle.serving.specs.Served.{ServedAlone, itself, all_own, known_alone}

-- the exit status of an end
abbrev pub status_of_end : End → ℕ
status_of_end Done = 0
status_of_end Spent = 8
status_of_end (CutShort cut) = 6
status_of_end (BadRequest bad) = 6
status_of_end (Busy kind) = 8
status_of_end ReadFault = 3
status_of_end WriteFault = 4
status_of_end NoMemory = 5

-- One connection was served from an empty journal with these limits, and the status is that of its end.
pub record Piped (limits : LimitNumbers) (left left' out out' : Option (List ℕ)) (ahead : Option (ℕ → ℕ)) (read read' written written' : ℕ) (status : ℕ) : Type 0 where
  pub journal : List Entry
  pub answered : ℕ
  pub end : End
  pub served : ServedAlone as_asked limits left left' out out' ahead [] journal answered end
  pub reads : ReadCounts read read' end
  pub writes : WriteCounts written written' end
  pub complete : Completes itself all_own as_asked left read read' written written' (known_alone []) (known_alone journal) end
  pub status_is : status ≡ status_of_end end
