use Rattle.std.proofs.Common.{◌≡◌, ℕ, true, ◌∷◌, [], ◌++◌, List, None, option_map, refl, ap, sym, subst, ◌∙◌}
use Rattle.path_text.specs.Tokens.{is_on_page}
use Rattle.op_filesystem.specs.Listed.{NamesFilesystem}
use Rattle.op_filesystem.proofs.listing.page_lines.Goals as goal

pub child-requires : goal.child-requires
child-requires c = record { filesystem = λ e. subst (λ o. NamesFilesystem (option_map (λ n. n.now) o)) c.in-Some.is c.requires.next }

pub write_token-requires : goal.write_token-requires
write_token-requires c =
    subst (λ p. is_on_page None p ≡ true) (sym (c.in_ok-last.ensures ∙ ap (λ (a : List (List ℕ)). a ++ c.in-Some.name.now ∷ []) c.requires.account)) refl
