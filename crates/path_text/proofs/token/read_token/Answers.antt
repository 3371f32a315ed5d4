use Rattle.std.proofs.Common.{arith}
use Rattle.path_text.proofs.TokenLemmas.{all_bytes, found_at, token_is_read, tokens_found}
use Rattle.path_text.proofs.token.read_token.Goals as goal

pub returns-clause-token : goal.returns-clause-token
returns-clause-token c =
    tokens_found _ _ c.token_path.result (all_bytes c.args.text.now (λ i within. omega (arith, c.type_inv.text i))) c.token_path.ensures.value c.token_path.ensures.limits

pub returns-clause-found : goal.returns-clause-found
returns-clause-found c = λ path is. found_at c.token_path.result _ path c.token_path.ensures.value (token_is_read _ _ path is)
