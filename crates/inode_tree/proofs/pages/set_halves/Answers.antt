use Rattle.std.proofs.Common.{[], ◌∷◌, take, ap, ◌∙◌}
use Rattle.std.proofs.lemmas.List.{take_rest}
use Rattle.inode_tree.specs.Pages.{replaced}
use Rattle.inode_tree.proofs.pages.set_halves.Goals as goal

pub returns-clause-pages : goal.returns-clause-pages
returns-clause-pages c =
    c.set_pages.ensures
    ∙ ap (λ l. replaced l c.args.at 1 (c.in_ok-first.first ∷ c.in_ok-second.second ∷ [])) c.in_ok-reserve.ensures.items
    ∙ ap (λ p. replaced c.args.pages.now.items c.args.at 1 (p ∷ c.in_ok-second.second ∷ [])) (c.in_ok-first.ensures ∙ c.in_ok-copied.ensures)
    ∙ ap (λ p. replaced c.args.pages.now.items c.args.at 1 (take 128 c.args.links.now ∷ p ∷ [])) (c.in_ok-second.ensures ∙ c.in_ok-copied-2.ensures ∙ take_rest c.args.links.now 128)
