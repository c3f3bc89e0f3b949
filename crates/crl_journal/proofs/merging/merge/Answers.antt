use Rattle.std.proofs.Common.{◌≡◌, ◌+◌, ◌++◌, ◌∷◌, [], sym, ap, ◌∙◌, arith, rules, append_assoc}
use Rattle.std.proofs.lemmas.List.{append-nil}
use Rattle.crl_journal.specs.Merging.{merged_account}
use Rattle.crl_journal.proofs.Popping.{left}
use Rattle.crl_journal.proofs.Queues.{journal_inside, popped_merged, popped_left, none_left}
use Rattle.crl_journal.proofs.merging.merge.Goals as goal

pub pop-entry-requires : goal.pop-entry-requires
pop-entry-requires c = journal_inside c.loop-i.journals c.in-Some.i c.in-Some.ensures

pub loop-i-smaller : goal.loop-i-smaller
loop-i-smaller c =
    let fewer : left c.pop-entry.new.journals + 1 ≡ left c.loop-i.journals =
    popped_left c.loop-i.journals c.in-Some.i c.pop-entry.result c.pop-entry.new.journals c.in-Some.ensures c.pop-entry.ensures in
    omega (arith, fewer)

pub loop-i-preserved : goal.loop-i-preserved
loop-i-preserved c =
    let first : merged_account c.loop-i.journals ≡ c.pop-entry.result.entry ∷ merged_account c.pop-entry.new.journals =
    popped_merged c.loop-i.journals c.in-Some.i c.pop-entry.result c.pop-entry.new.journals c.in-Some.ensures c.pop-entry.ensures in
    let more : c.push.new.self.items ≡ c.loop-i.entries.items ++ c.pop-entry.result.entry ∷ [] = search rules in
    ap (λ es. es ++ merged_account c.pop-entry.new.journals) more
    ∙ append_assoc c.loop-i.entries.items (c.pop-entry.result.entry ∷ []) (merged_account c.pop-entry.new.journals)
    ∙ ap (λ es. c.loop-i.entries.items ++ es) (sym first) ∙ c.loop-i.invariant

pub returns : goal.returns
returns c =
    let none : merged_account c.loop-i.journals ≡ [] = none_left c.loop-i.journals c.in_default.ensures in
    sym (append-nil c.loop-i.entries.items) ∙ ap (λ es. c.loop-i.entries.items ++ es) (sym none) ∙ c.loop-i.invariant
