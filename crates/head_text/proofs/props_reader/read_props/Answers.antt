use Rattle.std.proofs.Common.{arith}
use Rattle.head_text.specs.PropertyTexts.{properties_of}
use Rattle.head_text.proofs.PropertyLemmas.{text_bytes}
use Rattle.head_text.proofs.PropertyAnswers.{only_read, read_is_text, refused_is_fault, fault_is_refused, ok_is, answers_along, fault_is}
use Rattle.head_text.proofs.props_reader.read_props.Goals as goal

pub returns-clause-found : goal.returns-clause-found
returns-clause-found c =
    ok_is _ (properties_of c.args.text.now) _ c.properties_of.ensures
    (λ pairs e. read_is_text c.args.text.now pairs (text_bytes c.args.text.now (λ i within. omega (arith, c.type_inv.text i))) e)

pub returns-clause-only : goal.returns-clause-only
returns-clause-only c = λ pairs h. answers_along _ (properties_of c.args.text.now) _ c.properties_of.ensures (only_read c.args.text.now pairs h)

pub returns-clause-fault : goal.returns-clause-fault
returns-clause-fault c = λ f e.
    refused_is_fault c.args.text.now f (text_bytes c.args.text.now (λ i within. omega (arith, c.type_inv.text i)))
    (fault_is _ (properties_of c.args.text.now) f c.properties_of.ensures e)

pub returns-clause-refused : goal.returns-clause-refused
returns-clause-refused c = λ f h.
    answers_along _ (properties_of c.args.text.now) _ c.properties_of.ensures
    (fault_is_refused c.args.text.now f (text_bytes c.args.text.now (λ i within. omega (arith, c.type_inv.text i))) h)
