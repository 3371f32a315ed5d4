use Rattle.std.proofs.Common.{◌≡◌, ℕ, ◌+◌, ◌<◌, List, length, ap, arith}
use Rattle.dir_rename.proofs.LengthLemmas.{bytes_next, bytes_within}
use Rattle.dir_rename.proofs.lengths.left_behind.Goals as goal

pub returns-then-len-left-clause-none : goal.returns-then-len-left-clause-none
returns-then-len-left-clause-none c = λ e.
    let within : c.loop-name.name-index < length c.args.names.now = (let a = c.loop-name-test.true in let b = c.loop-name.auto.name-index-end in omega arith) in
    let next = bytes_next c.args.names.now c.loop-name.name-index c.name-item.result within c.name-item.is in
    let same : length c.bytes-len.result.now ≡ length c.name-item.result = ap (λ (l : List ℕ). length l) c.bytes-len.ensures.value in
    let all = bytes_within c.args.names.now (c.loop-name.name-index + 1) in
    let so_far = c.loop-name.invariant in
    let long = c.if-len-left.true in
    omega arith

pub loop-name-preserved : goal.loop-name-preserved
loop-name-preserved c =
    let within : c.loop-name.name-index < length c.args.names.now = (let a = c.loop-name-test.true in let b = c.loop-name.auto.name-index-end in omega arith) in
    let next = bytes_next c.args.names.now c.loop-name.name-index c.name-item.result within c.name-item.is in
    let same : length c.bytes-len.result.now ≡ length c.name-item.result = ap (λ (l : List ℕ). length l) c.bytes-len.ensures.value in
    let so_far = c.loop-name.invariant in
    let short = c.if-len-left.false in
    omega arith
