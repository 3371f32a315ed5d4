use Rattle.head_text.proofs.PropertyWriting.{written_is_read}
use Rattle.head_text.proofs.props_writer.write_props.Goals as goal

pub returns-clause-read_back : goal.returns-clause-read_back
returns-clause-read_back c = written_is_read c.args.props.now c.pairs.ensures.properties

pub returns-in_err-text-clause-read_back : goal.returns-in_err-text-clause-read_back
returns-in_err-text-clause-read_back c = written_is_read c.args.props.now c.pairs.ensures.properties
