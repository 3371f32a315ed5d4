use Rattle.std.proofs.Common.{◌&&◌, ap, sym, ◌∙◌}
use Rattle.namespace_model.specs.Rename.{grows}
use Rattle.dir_rename.specs.Stages.{moving_of}
use Rattle.dir_rename.proofs.RenameLemmas.{some_source, some_path, source_limits, path_limits}
use Rattle.dir_rename.proofs.eval.may_exceed.Goals as goal

pub room_below-source-requires : goal.room_below-source-requires
room_below-source-requires c = record {
  below = some_source c.args.call.now c.requires.call c.args.asked.now c.requires.operation;
  limits = source_limits c.args.call.now c.requires.call c.args.asked.now c.requires.operation;
}

pub room_below-path-requires : goal.room_below-path-requires
room_below-path-requires c = record {
  below = some_path c.args.call.now c.requires.call c.args.asked.now c.requires.operation;
  limits = path_limits c.args.call.now c.requires.call c.args.asked.now c.requires.operation;
}

pub returns-then-is_directory : goal.returns-then-is_directory
returns-then-is_directory c =
    c.is_growth.ensures (moving_of c.args.call.now c.args.asked.now) c.room_below-source.ensures c.room_below-path.ensures
    ∙ sym (ap (λ b. b && grows (moving_of c.args.call.now c.args.asked.now)) (sym c.is_directory.ensures ∙ c.if-is_directory.true))
