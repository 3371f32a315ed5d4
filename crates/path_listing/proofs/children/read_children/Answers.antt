use Rattle.std.proofs.Common.{option_map, false, refl, subst}
use Rattle.path_walk.proofs.FindLemmas.{ok_then}
use Rattle.path_listing.specs.Listed.{IsBegin, IsPage}
use Rattle.path_listing.proofs.BelowLemmas.{nothing_read}
use Rattle.path_listing.proofs.ChildLemmas.{children_read, children_need}
use Rattle.path_listing.proofs.children.read_children.Goals as goal

pub read_behind-requires-clause-root : goal.read_behind-requires-clause-root
read_behind-requires-clause-root g c = (c.args.dir.now, c.requires.root)

pub returns-in-Behind-clause-page : goal.returns-in-Behind-clause-page
returns-in-Behind-clause-page g c =
    ok_then c.read_behind.result _
    (λ page. IsPage (g.V.View.held c.read_behind.new.view) (g.V.View.shown c.read_behind.new.view) c.args.dir.now false c.args.wanted.now.token.now c.args.wanted.now.max page) c.read_behind.ensures.page
    (λ page from. children_read (g.V.View.held c.read_behind.new.view) (g.V.View.shown c.read_behind.new.view) c.args.dir.now c.args.wanted.now.token.now (option_map (λ n. n.now) c.in-Behind.last) c.args.wanted.now.max page
    (subst (λ b. IsBegin c.args.dir.now c.args.wanted.now.token.now b) c.in-Behind.is c.begin_at.ensures) (from c.args.dir.now c.requires.root))

pub returns-in-Behind-clause-need : goal.returns-in-Behind-clause-need
returns-in-Behind-clause-need g c = λ n e.
    children_need (g.V.View.held c.read_behind.new.view) (g.V.View.shown c.read_behind.new.view) c.args.dir.now c.args.wanted.now.token.now (option_map (λ n. n.now) c.in-Behind.last) c.args.wanted.now.max n
    (subst (λ b. IsBegin c.args.dir.now c.args.wanted.now.token.now b) c.in-Behind.is c.begin_at.ensures) (c.read_behind.ensures.need n e c.args.dir.now c.requires.root)

pub returns-in-AtEnd-clause-page : goal.returns-in-AtEnd-clause-page
returns-in-AtEnd-clause-page g c =
    let begins = subst (λ b. IsBegin c.args.dir.now c.args.wanted.now.token.now b) c.in-AtEnd.is c.begin_at.ensures in
    nothing_read (g.V.View.held c.args.view.now) (g.V.View.shown c.args.view.now) c.args.dir.now false c.args.wanted.now.token.now c.args.wanted.now.max _ (λ t. (begins t, refl)) c.no_page.ensures.way c.no_page.ensures.rows c.no_page.ensures.more
