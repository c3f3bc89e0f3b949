use Rattle.std.proofs.Common.{◌+◌, ◌<◌, ◌++◌, length, None, refl, sym, ap, ◌∙◌, arith, append_assoc, slice_index_or}
use Rattle.std.proofs.lemmas.List.{drop-set-lt, length-set}
use Rattle.crl_home.proofs.Calling.{next_marks, next_calls}
use Rattle.crl_home.proofs.Owing.{owed_first, set_owes}
use Rattle.crl_home.proofs.copies.call_copies.Goals as goal

pub loop-i-preserved : goal.loop-i-preserved
loop-i-preserved c =
    let at = c.loop-i in let h = at.invariant in let made = c.call_place.ensures in
    let old = slice_index_or at.listed at.i None in
    let below : at.i < length at.listed = omega (arith, c.loop-i-test.true, h.nodes) in
    let far = drop-set-lt (at.i + 1) at.listed at.i c.call_place.result (omega arith) in
    let first = owed_first at.listed at.i old None below refl in
    let set = set_owes at.listed at.i old None c.call_place.result below refl in
    record {
      listed = next_marks at.i at.listed c.call_place.result c.args.ask below made.copy ∙ h.listed;
      posts = rw (made.posts, far, append_assoc) (ap (λ ps. at.out.list ++ ps) (sym (next_calls c.args.me c.args.name at.i at.listed c.args.ask below)) ∙ h.posts);
      room = rw far (omega (arith, first, made.owes, made.places, h.room));
      places = made.places ∙ h.places;
      owes = omega (arith, set, made.owes, h.owes);
      nodes = length-set at.listed at.i c.call_place.result ∙ h.nodes;
    }
