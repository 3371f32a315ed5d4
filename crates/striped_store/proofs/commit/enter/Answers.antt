use Rattle.std.proofs.Common.{[], ◌∷◌, ◌++◌, List, ap, sym, ◌∙◌, subst}
use Rattle.lock_core.specs.Sound.{AllFit}
use Rattle.striped_store.proofs.commit.enter.Goals as goal

pub returns-clause-mine : goal.returns-clause-mine
returns-clause-mine g c =
    c.release.ensures.mine ∙ c.commit.ensures.mine c.args.entry (c.push-number.ensures.entries ∙ ap (λ (l : List g.row.P-Entry.Denot). l ++ c.args.entry ∷ []) c.requires.entries)

pub returns-clause-fit : goal.returns-clause-fit
returns-clause-fit g c = subst (λ (l : List g.row.P-Entry.Denot). AllFit g.P.Parted.object l) (sym c.release.ensures.seen) c.commit.ensures.fit
