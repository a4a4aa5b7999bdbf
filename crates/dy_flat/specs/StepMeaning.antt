-- What a step of the code stands for.
use Rattle.dy_flat.specs.declared.steps.Step.{Step}
use Rattle.dy_flat.specs.declared.steps.Step.TheVariants as code
use Rattle.dy_flat.specs.Walks as walks

abbrev pub step_of : Step → walks.Step
step_of (code.Lit text) = walks.Lit text.now
step_of (code.Name principal) = walks.Name principal.now
step_of (code.Nonce index) = walks.Nonce index
step_of (code.Pair first second) = walks.Pair first second
step_of (code.Pk key) = walks.Pk key
step_of (code.Vk key) = walks.Vk key
step_of (code.Penc to message) = walks.Penc to message
step_of (code.Aead key message associated) = walks.Aead key message associated
step_of (code.Sign key message) = walks.Sign key message
step_of (code.Mac key message) = walks.Mac key message
step_of (code.Kdf key context input) = walks.Kdf key context.now input
step_of (code.Hash message) = walks.Hash message
