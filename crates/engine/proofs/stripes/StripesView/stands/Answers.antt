use Rattle.std.proofs.Common.{◌≡◌, slice_get, ap, ◌∙◌}
use Rattle.std.proofs.lemmas.Grind.{merely}
use Rattle.inode_tree.specs.Parts.{tree_of}
use Rattle.parted_namespace.specs.Namespace.{parts_of}
use Rattle.engine.proofs.stripes.StripesView.stands.Goals as goal

pub returns : goal.returns
returns c =
    let view = c.self.view_is in
    let same : c.self.inside.stripes.items ≡ c.args.self.now = cc in
    merely (record {
      parts = parts_of c.self.inside.stripes.items;
      tree = tree_of (parts_of c.self.inside.stripes.items);
      stands = c.self.invariant.stands;
      dates = c.self.invariant.dates;
      agrees = λ stripe part h. ap (λ xs. slice_get (parts_of xs) stripe) same ∙ h;
    })
