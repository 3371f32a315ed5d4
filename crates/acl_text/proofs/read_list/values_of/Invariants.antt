use Rattle.std.proofs.Common.{◌≡◌, take, drop, map}
use Rattle.std.specs.List.{filter_map, position_from}
use Rattle.acl_text.proofs.ListLemmas.{is_bad}
use Rattle.acl_text.proofs.read_list.values_of.Given as goal

abbrev pub invariant-loop-at : goal.invariant-loop-at
invariant-loop-at g l =
    (position_from (is_bad g.T.Item.read_of) 0 (map (λ t. t.now) l.items) ≡ position_from (is_bad g.T.Item.read_of) l.at (drop l.at (map (λ t. t.now) l.items)))
    × (l.values.items ≡ filter_map g.T.Item.read_of (take l.at (map (λ t. t.now) l.items)))
