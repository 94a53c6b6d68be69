use Rattle.std.proofs.Common.{refl}
use lib.Ieee.{fits, add, sub, mul, neg, of_bits, eq, le, lt}
use Rattle.std.specs.Float.{float_with_sign, is_sign_negative}
use Rattle.reading.specs.Limits.{in_range, loggable}
use Rattle.orientation.specs.Filter.{difference, weight, allowance}
use Rattle.judge.specs.Quick.{quick_word}
use Rattle.judge.specs.Centre.{centre_area, centre_doubt}
use Rattle.judge.specs.Corner.{at_heads, over_third, over_second, swept}
use Rattle.worked.proofs.rows_that_hold.Goals as goal

pub returns : goal.returns
unfolding fits add sub mul neg of_bits eq le lt float_with_sign is_sign_negative in_range loggable difference weight allowance quick_word centre_area centre_doubt at_heads over_third over_second swept
returns c =
    record {
      count = refl;
      hold = (
        (refl, refl, refl, refl),
        (
          (refl, refl, refl, refl),
          (
            (refl, refl, refl, refl),
            (
              (refl, refl, refl, refl),
              (
                (refl, refl, refl, refl),
                (
                  (refl, refl, refl, refl),
                  (
                    ((refl, (refl, (refl, tt))), tt, refl),
                    (
                      ((refl, (refl, (refl, (refl, (refl, tt))))), (refl, (refl, tt)), refl),
                      (
                        ((refl, (refl, (refl, (refl, (refl, (refl, tt)))))), tt, refl),
                        (((refl, (refl, (refl, (refl, (refl, (refl, (refl, tt))))))), tt, refl), tt),
                      ),
                    ),
                  ),
                ),
              ),
            ),
          ),
        ),
      );
    }
