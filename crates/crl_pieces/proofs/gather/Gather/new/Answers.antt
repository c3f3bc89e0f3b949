use Rattle.std.proofs.Common.{◌≡◌, ℕ, false, length, replicate, ◌∙◌, ap}
use Rattle.std.proofs.lemmas.List.{length-replicate}
use Rattle.crl_pieces.specs.Pieces.{count, nothing_came}
use Rattle.crl_pieces.specs.Gathering.{slots_of}
use Rattle.crl_pieces.proofs.Slots.{slots_new}
use Rattle.crl_pieces.proofs.gather.Gather.new.Goals as goal

pub returns : goal.returns
returns c =
    let whole = c.in_ok-whole.whole in
    let size : length whole ≡ c.args.size = ap length c.in_ok-whole.ensures ∙ length-replicate {A = ℕ} c.args.size 0 in
    let came : c.in_ok-came.came.items ≡ replicate (count c.args.size) false = c.in_ok-came.ensures ∙ ap (λ n. replicate n false) c.count.ensures in
    let slots : slots_of c.in_ok-came.came.items whole ≡ nothing_came (count c.args.size) = ap (λ bs. slots_of bs whole) came ∙ slots_new (count c.args.size) whole in
    λ i. record { size = size i; slots = slots i }
