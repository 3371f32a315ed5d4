use Rattle.std.proofs.Common.{◌≡◌, ◌≤◌}
use Rattle.inode_tree.specs.Drawing.{next_ids}
use Rattle.service_workers.proofs.prepare.draw_ids.Given as goal

abbrev pub invariant-loop-place : goal.invariant-loop-place
invariant-loop-place l = (l.ids.items ≡ next_ids l.fresh.pass l.fresh.used l.place) × (l.place ≤ l.many)
