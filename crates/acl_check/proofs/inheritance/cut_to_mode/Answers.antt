use Rattle.std.proofs.Common.{◌≡◌, ap, ◌∙◌}
use Rattle.std.specs.Prelude.{bit_and}
use Rattle.std.specs.FinMap as fin
use Rattle.std.proofs.lemmas.Result.{IfOk-weaker}
use Rattle.acl_text.specs.declared.perm.ModeBits.{ModeBits}
use Rattle.acl_text.specs.AclMaps.{map_of}
use Rattle.acl_text.specs.AclChanges.{mode_set}
use Rattle.acl_check.proofs.Inherited.{cut_list, shown_group}
use Rattle.acl_check.proofs.inheritance.cut_to_mode.Goals as goal

pub returns : goal.returns
returns c =
    let acl = c.args.acl.now in
    let mode = c.args.mode.now in
    let bits : ModeBits = record { sticky = mode.sticky; owner = c.and.result; group = c.and-2.result; other = c.and-3.result } in
    let is = c.mode-shown.ensures.acl in
    let shown = c.mode-shown.ensures.mode in
    let cut = cut_list acl mode bits is
    (c.and.ensures ∙ ap (λ (b : ModeBits). bit_and b.owner mode.owner) shown)
    (c.and-2.ensures ∙ ap (λ (b : ModeBits). bit_and b.group mode.group) shown ∙ ap (λ n. bit_and n mode.group) (shown_group acl is))
    (c.and-3.ensures ∙ ap (λ (b : ModeBits). bit_and b.other mode.other) shown) in
    IfOk-weaker _ (λ made. made ≡ fin.entries (mode_set bits (map_of acl))) _ (λ made e. e ∙ cut) c.with_mode.ensures
