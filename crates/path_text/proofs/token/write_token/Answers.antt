use Rattle.std.proofs.Common.{refl}
use Rattle.path_text.proofs.TokenLemmas.{token_is_read}
use Rattle.path_text.proofs.token.write_token.Goals as goal

pub returns-in_err-bytes-clause-read_back : goal.returns-in_err-bytes-clause-read_back
returns-in_err-bytes-clause-read_back c = λ limits. token_is_read _ _ c.args.path.now (record { limits = limits; page = c.requires; spelled = refl })

pub returns-in_err-text-clause-read_back : goal.returns-in_err-text-clause-read_back
returns-in_err-text-clause-read_back c = λ limits. token_is_read _ _ c.args.path.now (record { limits = limits; page = c.requires; spelled = refl })

pub returns-clause-read_back : goal.returns-clause-read_back
returns-clause-read_back c = λ limits. token_is_read _ _ c.args.path.now (record { limits = limits; page = c.requires; spelled = refl })
