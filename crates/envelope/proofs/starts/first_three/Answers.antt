use Rattle.std.proofs.Common.{rules}
use Rattle.envelope.proofs.Searches.{at_first, from_enumerate, first_found, three_is}
use Rattle.envelope.proofs.starts.first_three.Goals as goal

pub returns : goal.returns
returns g c =
    let word = g.J.Judge.word c.args.judge.now in
    let xs = c.args.readings.now in
    let found = c.find_map.ensures.runs in
    let counted = c.enumerate.ensures.runs found.0 found.0.seen found.1 in
    let numbers = from_enumerate found.0 counted.1.0 xs counted.0 counted.1.2 (let read = c.iter.ensures.runs counted.1.0 counted.1.0.seen in search rules) in
    three_is word xs c.find_map.result
    (first_found found.0 0 xs numbers _ _ (at_first word xs) (λ a r f' e. search rules) (λ x o e. search rules) c.find_map.result found.2)
