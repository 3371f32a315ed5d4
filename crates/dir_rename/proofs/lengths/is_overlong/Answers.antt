use Rattle.dir_rename.proofs.LengthLemmas.{has_room, too_many_bytes, too_many_names}
use Rattle.dir_rename.proofs.lengths.is_overlong.Goals as goal

pub returns-then-names-room : goal.returns-then-names-room
returns-then-names-room c = λ p some is. too_many_names p c.args.names.now c.args.room some is c.if-names-room.true

pub returns-in-Some : goal.returns-in-Some
returns-in-Some c = λ p some is. has_room p c.args.names.now c.args.room some is c.if-names-room.false _ c.in-Some.ensures.some

pub returns-in-None : goal.returns-in-None
returns-in-None c = λ p some is. too_many_bytes p c.args.names.now c.args.room some is (c.left_behind.ensures.none c.in-None.is)
