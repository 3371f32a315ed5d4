-- The fields of a file's data as contracts see them, and what is true of them.
use Rattle.std.specs.Prelude.{◌≡◌, ◌-◌, ◌+◌, ◌<◌, ◌≤◌, length, vec_len, vec_capacity}
use Rattle.file_data.specs.Staging.{bytes_of}
use Rattle.file_data.specs.FileRecord.{FileRecord, IsFile, AreExtents}
use Rattle.file_data.specs.declared.data.FileData.TheInside.{Inside}

-- the committed bytes are those of the extents; the staged list grows within its memory, and there is room for one flush
-- or none
abbrev pub record_of : Inside → FileRecord
record_of a = record {
  committed = bytes_of a.extents.extents;
  extents = a.extents.extents;
  staged = a.staged.items;
  stage_room = vec_capacity a.staged - vec_len a.staged;
  flush_room = a.flush_room;
}

-- the file is as it has to be, its length is kept beside the extents, and where there is room for a flush the staged
-- pieces stand behind the extents
pub record IsInside (a : Inside) : Type 0 where
  pub file : IsFile (bytes_of a.extents.extents) a.staged.items
  pub extents : AreExtents (bytes_of a.extents.extents) a.extents.extents
  pub len : a.len ≡ length (bytes_of a.extents.extents)
  pub room : a.flush_room ≤ 1
  pub ready : 0 < a.flush_room → a.extents.ahead ≡ a.staged.items
