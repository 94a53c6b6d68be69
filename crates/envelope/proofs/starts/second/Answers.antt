use Rattle.std.proofs.Common.{rules, ◌+◌}
use Rattle.envelope.proofs.Searches.{at_second, from_enumerate, from_skip, first_found, second_is}
use Rattle.envelope.proofs.starts.second.Goals as goal

pub returns : goal.returns
returns g c =
    let word = g.J.Judge.word c.args.judge.now in
    let xs = c.args.readings.now in
    let found = c.find_map.ensures.runs in
    let skipped = c.skip.ensures.runs found.0 found.0.seen found.1 in
    let counted = c.enumerate.ensures.runs skipped.0 skipped.0.seen skipped.1 in
    let numbers = from_skip found.0 skipped.0 (c.args.first.0 + 1) xs skipped.2 (from_enumerate skipped.0 counted.1.0 xs counted.0 counted.1.2 (let read = c.iter.ensures.runs counted.1.0 counted.1.0.seen in search rules)) in
    second_is word xs c.args.first.1.now c.args.first.0 c.find_map.result c.requires
    (first_found found.0 (c.args.first.0 + 1) xs numbers _ _ (at_second word xs c.args.first.1.now c.args.first.0) (λ a r f' e. search rules) (λ x o e. search rules) c.find_map.result found.2)
