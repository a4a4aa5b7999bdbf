use Rattle.dy_sound.proofs.OpeningStatements.{split_is_sound, open_is_sound, popen_is_sound, verify_is_sound}
use Rattle.dy_sound.proofs.CheckStatement.{check_is_sound}
use Rattle.dy_sound.proofs.laws_of_openings.openings_are_sound.Goals as goal

pub returns : goal.returns
returns c =
    let below = c.laws_below.ensures in
    let equal = c.sameness_is_equality.ensures.equal in
    record {
      split = split_is_sound below equal;
      open_ = open_is_sound below equal;
      popen = popen_is_sound below equal;
      verify = verify_is_sound below equal;
      check = check_is_sound below equal;
    }
