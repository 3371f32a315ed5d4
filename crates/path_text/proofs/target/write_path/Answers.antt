use Rattle.path_text.proofs.RoundTrip.{written_is_read}
use Rattle.path_text.proofs.target.write_path.Goals as goal

pub returns-in_err-text-clause-read_back : goal.returns-in_err-text-clause-read_back
returns-in_err-text-clause-read_back c = written_is_read c.args.path.now

pub returns-clause-read_back : goal.returns-clause-read_back
returns-clause-read_back c = written_is_read c.args.path.now
