use Rattle.std.proofs.Common.{◌≡◌, ℕ, ◌+◌, ◌-◌, ◌/◌, true, false, length, get_or, sym, ap, ◌∙◌, arith}
use Rattle.std.specs.List.{filter}
use Rattle.inode_tree.specs.Pages.{begins_by}
use Rattle.inode_tree.proofs.PageLemmas.{begin_before, behind_it, count_is}
use Rattle.inode_tree.proofs.pages.home.Goals as goal

pub loop-low-preserved-then-begins_by : goal.loop-low-preserved-then-begins_by
loop-low-preserved-then-begins_by c =
    let middle : ℕ = c.loop-low.low + (c.loop-low.high - c.loop-low.low) / 2 in
    let at : begins_by c.args.name.now (get_or c.args.pages.now middle c.index-pages-middle.result) ≡ true =
    cc (c.begins_by.ensures, c.links.ensures, c.index-pages-middle.is, c.if-begins_by.true) in
    record {
      ordered = omega arith;
      within = c.loop-low.invariant.within;
      yes = λ k d low high. begin_before c.args.name.now c.args.pages.now c.requires k middle d c.index-pages-middle.result (omega arith) (omega arith) at;
      no = c.loop-low.invariant.no;
    }

pub loop-low-preserved : goal.loop-low-preserved
loop-low-preserved c =
    let middle : ℕ = c.loop-low.low + (c.loop-low.high - c.loop-low.low) / 2 in
    let at : begins_by c.args.name.now (get_or c.args.pages.now middle c.index-pages-middle.result) ≡ false =
    cc (c.begins_by.ensures, c.links.ensures, c.index-pages-middle.is, c.if-begins_by.false) in
    record {
      ordered = omega arith;
      within = omega arith;
      yes = c.loop-low.invariant.yes;
      no = λ k d low high. behind_it c.args.name.now c.args.pages.now c.requires middle k d c.index-pages-middle.result high low at;
    }

pub returns-then-low-eq0-clause-home : goal.returns-then-low-eq0-clause-home
returns-then-low-eq0-clause-home c =
    let count : length (filter (begins_by c.args.name.now) c.args.pages.now) ≡ c.loop-low.low =
    count_is c.args.name.now c.args.pages.now c.loop-low.low (omega arith) c.loop-low.invariant.yes (λ k d low high. c.loop-low.invariant.no k d (omega arith) high) in
    let none : c.loop-low.low - 1 ≡ 0 = omega arith in
    sym (ap (λ n. n - 1) count ∙ none)

pub returns-else-low-eq0-clause-home : goal.returns-else-low-eq0-clause-home
returns-else-low-eq0-clause-home c =
    let count : length (filter (begins_by c.args.name.now) c.args.pages.now) ≡ c.loop-low.low =
    count_is c.args.name.now c.args.pages.now c.loop-low.low (omega arith) c.loop-low.invariant.yes (λ k d low high. c.loop-low.invariant.no k d (omega arith) high) in
    sym (ap (λ n. n - 1) count)
