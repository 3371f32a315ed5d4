use Rattle.std.proofs.Common.{◌≡◌, ◌+◌, ◌≤◌, length, ap, sym, ◌∙◌, arith}
use Rattle.std.specs.Option.{option_copied}
use Rattle.namespace_model.specs.Rename.{text_length}
use Rattle.dir_rename.specs.Lengths.{name_bytes}
use Rattle.dir_rename.proofs.LengthLemmas.{room_is}
use Rattle.dir_rename.proofs.lengths.room_below.Goals as goal

pub unreachable-requires-in-None-left_behind : goal.unreachable-requires-in-None-left_behind
unreachable-requires-in-None-left_behind c =
    let whole : text_length c.args.path.now ≡ length c.bytes.result.now + name_bytes c.names.result.now =
    room_is c.args.path.now c.in-Some.fs.now c.bytes.result.now c.names.result.now (sym c.fs.ensures ∙ ap option_copied c.in-Some.is) c.bytes.ensures.value c.names.ensures in
    let limit : text_length c.args.path.now ≤ 1024 = c.requires.limits.length_within in
    let over = c.left_behind.ensures.none c.in-None-left_behind.is in
    omega arith

pub returns : goal.returns
returns c = record {
  names = (let deep = c.depth.ensures in let limit = c.requires.limits.depth_within in omega arith);
  bytes =
      (let whole : text_length c.args.path.now ≡ length c.bytes.result.now + name_bytes c.names.result.now =
      room_is c.args.path.now c.in-Some.fs.now c.bytes.result.now c.names.result.now (sym c.fs.ensures ∙ ap option_copied c.in-Some.is) c.bytes.ensures.value c.names.ensures in
      let limit : text_length c.args.path.now ≤ 1024 = c.requires.limits.length_within in
      let left = c.in-Some-left_behind.ensures.some in
      omega arith);
}
