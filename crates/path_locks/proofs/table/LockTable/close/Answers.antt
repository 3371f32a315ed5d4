use Rattle.path_locks.proofs.Closing.{is_left}
use Rattle.path_locks.proofs.table.LockTable.close.Goals as goal

pub take_out-requires-clause-parts : goal.take_out-requires-clause-parts
take_out-requires-clause-parts g c =
    let left = is_left g.P.Parted.object g.met.P.Parted.lawful g.P.Parted.bare g.K.Keeper.tells c.self.inside.memory.shared.key c.self.inside.memory.shared.table_id c.args.self _ _ _ _ c.args.seats.items
    c.self.view_is c.close_with.ensures.values.2 c.join_all-last.ensures.rest c.requires.every c.join_all-last.ensures.knew in
    λ k h. left.parts_lie k h

pub take_out-requires-clause-book : goal.take_out-requires-clause-book
take_out-requires-clause-book g c =
    let left = is_left g.P.Parted.object g.met.P.Parted.lawful g.P.Parted.bare g.K.Keeper.tells c.self.inside.memory.shared.key c.self.inside.memory.shared.table_id c.args.self _ _ _ _ c.args.seats.items
    c.self.view_is c.close_with.ensures.values.2 c.join_all-last.ensures.rest c.requires.every c.join_all-last.ensures.knew in
    left.book_lies

pub returns-clause-parts : goal.returns-clause-parts
returns-clause-parts g c =
    let left = is_left g.P.Parted.object g.met.P.Parted.lawful g.P.Parted.bare g.K.Keeper.tells c.self.inside.memory.shared.key c.self.inside.memory.shared.table_id c.args.self _ _ _ _ c.args.seats.items
    c.self.view_is c.close_with.ensures.values.2 c.join_all-last.ensures.rest c.requires.every c.join_all-last.ensures.knew in
    (left.whole _ _ _ c.take_out.ensures).parts_are_replay

pub returns-clause-limits : goal.returns-clause-limits
returns-clause-limits g c =
    let left = is_left g.P.Parted.object g.met.P.Parted.lawful g.P.Parted.bare g.K.Keeper.tells c.self.inside.memory.shared.key c.self.inside.memory.shared.table_id c.args.self _ _ _ _ c.args.seats.items
    c.self.view_is c.close_with.ensures.values.2 c.join_all-last.ensures.rest c.requires.every c.join_all-last.ensures.knew in
    (left.whole _ _ _ c.take_out.ensures).limits_stay

pub returns-clause-fit : goal.returns-clause-fit
returns-clause-fit g c =
    let left = is_left g.P.Parted.object g.met.P.Parted.lawful g.P.Parted.bare g.K.Keeper.tells c.self.inside.memory.shared.key c.self.inside.memory.shared.table_id c.args.self _ _ _ _ c.args.seats.items
    c.self.view_is c.close_with.ensures.values.2 c.join_all-last.ensures.rest c.requires.every c.join_all-last.ensures.knew in
    (left.whole _ _ _ c.take_out.ensures).fit

pub returns-clause-kept : goal.returns-clause-kept
returns-clause-kept g c =
    let left = is_left g.P.Parted.object g.met.P.Parted.lawful g.P.Parted.bare g.K.Keeper.tells c.self.inside.memory.shared.key c.self.inside.memory.shared.table_id c.args.self _ _ _ _ c.args.seats.items
    c.self.view_is c.close_with.ensures.values.2 c.join_all-last.ensures.rest c.requires.every c.join_all-last.ensures.knew in
    (left.whole _ _ _ c.take_out.ensures).keeps

pub returns-clause-made : goal.returns-clause-made
returns-clause-made g c =
    let left = is_left g.P.Parted.object g.met.P.Parted.lawful g.P.Parted.bare g.K.Keeper.tells c.self.inside.memory.shared.key c.self.inside.memory.shared.table_id c.args.self _ _ _ _ c.args.seats.items
    c.self.view_is c.close_with.ensures.values.2 c.join_all-last.ensures.rest c.requires.every c.join_all-last.ensures.knew in
    (left.whole _ _ _ c.take_out.ensures).made

pub returns-clause-saw : goal.returns-clause-saw
returns-clause-saw g c =
    let left = is_left g.P.Parted.object g.met.P.Parted.lawful g.P.Parted.bare g.K.Keeper.tells c.self.inside.memory.shared.key c.self.inside.memory.shared.table_id c.args.self _ _ _ _ c.args.seats.items
    c.self.view_is c.close_with.ensures.values.2 c.join_all-last.ensures.rest c.requires.every c.join_all-last.ensures.knew in
    (left.whole _ _ _ c.take_out.ensures).saw
