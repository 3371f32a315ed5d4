use Rattle.std.proofs.Common.{length, ap, sym, arith}
use Rattle.file_data.specs.FileRecord.{IsFile}
use Rattle.file_data.specs.FileInside.{record_of}
use Rattle.file_data.specs.Staging.{bytes_of, with_piece}
use Rattle.file_data.proofs.FileLemmas.{stage_keeps}
use Rattle.file_data.proofs.OrderLemmas.{staged_as}
use Rattle.file_data.proofs.data.FileData.stage.Goals as goal

pub invariant_of-self : goal.invariant_of-self
invariant_of-self c =
    let may = staged_as (record_of c.self.inside) c.args.self.now c.self.view_is c.args.position c.args.piece
    (c.in-Ok.ensures.answer c.args.piece (ap length (sym c.bytes.ensures))) in
    let kept : IsFile (bytes_of c.self.inside.extents.extents) (with_piece c.self.inside.staged.items c.args.position c.args.piece) =
    stage_keeps (bytes_of c.self.inside.extents.extents) c.self.inside.staged.items c.args.position c.args.piece c.self.invariant.file may.0 c.requires.filled may.1 in
    record {
      file = rw c.put_piece.ensures.items kept;
      extents = c.self.invariant.extents;
      len = c.self.invariant.len;
      room = omega arith;
      ready = λ h. absurd (omega arith);
    }
