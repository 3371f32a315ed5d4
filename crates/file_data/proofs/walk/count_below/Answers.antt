use Rattle.std.proofs.Common.{ℕ, List, rules, of_calls}
use Rattle.std.specs.Prelude.{nat_lt}
use Rattle.std.proofs.lemmas.Fn.{always_returns_same}
use Rattle.file_data.proofs.StagingLemmas.{parts_by, starts_parted}
use Rattle.file_data.proofs.walk.count_below.Goals as goal

pub returns-clause-front : goal.returns-clause-front
returns-clause-front c =
    let point = c.partition_point.ensures.partitioned (λ (p : ℕ × List ℕ). nat_lt p.0 c.args.position) (always_returns_same _ _ _ (λ a r f k. search (rules, of_calls)))
    (λ i j d l m up. starts_parted c.args.pieces.now c.args.position i j d c.requires l m up) in
    (parts_by c.args.pieces.now c.partition_point.result c.args.position c.partition_point.ensures.bound point.0 point.1).0

pub returns-clause-back : goal.returns-clause-back
returns-clause-back c =
    let point = c.partition_point.ensures.partitioned (λ (p : ℕ × List ℕ). nat_lt p.0 c.args.position) (always_returns_same _ _ _ (λ a r f k. search (rules, of_calls)))
    (λ i j d l m up. starts_parted c.args.pieces.now c.args.position i j d c.requires l m up) in
    (parts_by c.args.pieces.now c.partition_point.result c.args.position c.partition_point.ensures.bound point.0 point.1).1
