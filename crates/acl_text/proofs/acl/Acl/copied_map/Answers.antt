use Rattle.std.proofs.Common.{◌≡◌, sym, ap, ◌∙◌}
use Rattle.std.proofs.lemmas.Result.{IfOk-weaker}
use Rattle.acl_text.specs.AclMaps.{map_of}
use Rattle.acl_text.proofs.EntryLemmas.{map-entries}
use Rattle.acl_text.proofs.acl.Acl.copied_map.Goals as goal

pub returns-clause-map : goal.returns-clause-map
returns-clause-map c =
    IfOk-weaker _ (λ map. map ≡ c.self.inside.map) _ (λ map is. is ∙ sym (map-entries c.self.inside.map) ∙ ap map_of c.self.view_is) c.copy.ensures
