use Rattle.std.proofs.Common.{◌≡◌, ℕ, Bool, not, ◌||◌, List, rules, tests, ap, ◌∙◌}
use Rattle.std.proofs.lemmas.Fn.{filter_same}
use Rattle.std.specs.FinMap as fin
use Rattle.std.specs.FinMap.Entries.{where_key}
use Rattle.acl_text.specs.declared.scope.Scope.{Scope}
use Rattle.acl_text.specs.declared.who.Who.{Who}
use Rattle.acl_text.specs.Whos.{who_cmp, is_base}
use Rattle.acl_text.specs.AclChanges.{lists}
use Rattle.acl_text.proofs.EntryLemmas.{kept_sorted, held_kept, map-kept}
use Rattle.acl_text.proofs.entries.Entries.drop_listed.Goals as goal

abbrev stays : Scope → List (Scope × Who) → Who → Bool
stays scope listed who = is_base who || not (lists scope listed who)

pub invariant_of-self : goal.invariant_of-self
invariant_of-self c =
    let kept : c.retain.new.self.items ≡ where_key who_cmp (stays c.args.scope c.args.listed.now) c.self.inside.items.items =
    filter_same _ (λ (e : Who × ℕ). stays c.args.scope c.args.listed.now e.0) _ (λ x b q h. search (rules, tests)) _ _ c.retain.ensures.filtered in
    rw kept (kept_sorted (stays c.args.scope c.args.listed.now) c.self.inside.items.items c.self.invariant.0, held_kept (stays c.args.scope c.args.listed.now) c.self.inside.items.items c.self.invariant.1)

pub returns : goal.returns
returns c =
    let kept : c.retain.new.self.items ≡ where_key who_cmp (stays c.args.scope c.args.listed.now) c.self.inside.items.items =
    filter_same _ (λ (e : Who × ℕ). stays c.args.scope c.args.listed.now e.0) _ (λ x b q h. search (rules, tests)) _ _ c.retain.ensures.filtered in
    ap fin.from_sorted kept ∙ map-kept (stays c.args.scope c.args.listed.now) c.self.inside.items.items c.self.invariant.0
    ∙ ap (λ m. fin.retain_keys m (stays c.args.scope c.args.listed.now)) c.self.view_is
