use Rattle.dy_syntax.specs.Meaning.{file_of}
use Rattle.dy_sound.proofs.acceptance.accept.Goals as goal

pub invariant_of-result : goal.invariant_of-result
invariant_of-result c =
    let typed = c.in-Ok.ensures.accepted c.in-Accepted.is in
    record {
      typed = ∣ (c.requires.well_formed, typed) ∣₁;
      secure = ∣ (λ bytes T is_one. c.typed_is_secure.ensures bytes (file_of c.args.file) T typed is_one) ∣₁;
    }
