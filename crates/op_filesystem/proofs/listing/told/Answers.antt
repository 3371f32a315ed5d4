use Rattle.std.proofs.Common.{None, option_map, ap, subst, ◌∙◌}
use Rattle.namespace_model.specs.declared.reply.Reply.{Reply}
use Rattle.namespace_model.specs.Replies.{page_fields, success, with_body}
use Rattle.path_walk.specs.Answers.{IsAnswered}
use Rattle.path_walk.proofs.FindLemmas.{ok_then}
use Rattle.op_filesystem.specs.Listed.{IsToldPage, root_of}
use Rattle.op_filesystem.proofs.listing.told.Goals as goal

pub returns : goal.returns
returns c =
    ok_then c.answered.result _ (IsToldPage c.args.call.now.request.now.close c.args.page) c.answered.ensures (λ d is. record {
      body = c.in_ok-body.body.items;
      is_body = λ t paths tells. c.in_ok-body.ensures.text t paths tells;
      answers = subst (λ r. IsAnswered c.args.call.now.request.now.close r c.args.page.reads.items d)
          (ap (λ (r : Reply). record r { body = c.new.result }) (c.success-reply.ensures ∙ ap (success 200) c.in_ok-fields.ensures)
          ∙ ap (λ b. with_body 200 (page_fields None (root_of (option_map (λ n. n.now) c.args.page.next))) b) c.new.ensures)
          is;
    })
