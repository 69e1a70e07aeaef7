use Rattle.desk.proofs.Standing.{comes, brings}
use borrow.Author.Rules.{rules}
use Rattle.desk.proofs.brought_back.Goals as goal

-- src/lib.rt:193:1
pub returns : goal.returns
returns c =
    let came = comes c.args.desk c.args.back.now _ _ _ _ _ _ c.fault_of-fault.ensures c.front.ensures c.arrive-got.ensures.value c.arrive-got.ensures.out_after (search rules) c.front-2.ensures in
    let all = brings c.args.desk c.args.sent.now c.args.answer.now c.args.out.now _ _ came _ _ _ _ c.hear_back-said.ensures c.told_of.ensures in record { value = all.0; answer_after = all.1.0; out_after = all.1.1 }
