-- The rules of a node, over the numbers of nodes. It mirrors the code: `Facts` says what they stand for.
use Rattle.std.specs.Prelude.{ℕ, List, [], ◌∷◌, Option, Some, None, map, slice_get}
use Rattle.std.specs.Option.{option_and_then}
use Rattle.dy_chains.specs.declared.rules.Rule.{Rule}
use Rattle.dy_chains.specs.declared.rules.Premises.{Premises}
use Rattle.dy_chains.specs.declared.rules.Premises.TheVariants as premises
use Rattle.dy_derive.specs.declared.nodes.Node.{Node}
use Rattle.dy_derive.specs.declared.nodes.Node.TheVariants as code
use Rattle.dy_derive.specs.declared.reasons.Reason.{Reason}
use Rattle.dy_derive.specs.declared.reasons.Reason.TheVariants as reasons
use Rattle.dy_derive.specs.Facts.{Fact, Inference}
use Rattle.dy_derive.specs.Rules.{StandsFor}

-- a rule with its reason
abbrev pub Reasoned : Type 0
Reasoned = Rule × Reason

abbrev pub reasoned : Premises → ℕ → Reason → Reasoned
reasoned premises conclusion reason = (record { premises = premises; conclusion = conclusion }, reason)

-- the key of a public key
abbrev pub key_of_public : Node → Option ℕ
key_of_public (code.Pk key) = Some key
key_of_public _ = None

-- the key that opens what is encrypted to a public key
abbrev pub decryption_key : List Node → Node → Option ℕ
decryption_key nodes (code.Penc to message) = option_and_then key_of_public (slice_get nodes to)
decryption_key nodes _ = None

-- how a message is opened, where the key is known
abbrev pub decrypted : ℕ → ℕ → Option ℕ → List Reasoned
decrypted number message None = []
decrypted number message (Some key) = reasoned (premises.Two number key) message reasons.Decrypted ∷ []

-- The rules of a node of this number: how it is built, and how it is opened.
abbrev pub rules_of : ℕ → Option ℕ → Node → List Reasoned
rules_of n opening (code.Lit text) = reasoned premises.None n reasons.Built ∷ []
rules_of n opening (code.Name principal) = reasoned premises.None n reasons.Built ∷ []
rules_of n opening (code.Nonce index) = []
rules_of n opening (code.Pair first second) =
    reasoned (premises.Two first second) n reasons.Built
    ∷ reasoned (premises.One n) first reasons.First ∷ reasoned (premises.One n) second reasons.Second ∷ []
rules_of n opening (code.Pk key) = reasoned (premises.One key) n reasons.Built ∷ []
rules_of n opening (code.Vk key) = reasoned (premises.One key) n reasons.Built ∷ []
rules_of n opening (code.Penc to message) =
    reasoned (premises.Two to message) n reasons.Built ∷ decrypted n message opening
rules_of n opening (code.Aead key message associated) =
    reasoned (premises.Three key message associated) n reasons.Built
    ∷ reasoned (premises.Two n key) message reasons.Opened
    ∷ reasoned (premises.One n) associated reasons.Associated ∷ []
rules_of n opening (code.Sign key message) =
    reasoned (premises.Two key message) n reasons.Built ∷ reasoned (premises.One n) message reasons.Signed ∷ []
rules_of n opening (code.Mac key message) = reasoned (premises.Two key message) n reasons.Built ∷ []
rules_of n opening (code.Kdf key context input) = reasoned (premises.Two key input) n reasons.Built ∷ []
rules_of n opening (code.Hash message) = reasoned (premises.One message) n reasons.Built ∷ []
rules_of n opening (code.Principal principal) = []
rules_of n opening (code.Session principal session) = []
rules_of n opening (code.Version principal session version) = []

abbrev pub rules_in : List Reasoned → List Rule
rules_in list = map (λ one. one.0) list

abbrev pub reasons_in : List Reasoned → List Reason
reasons_in list = map (λ one. one.1) list

-- The rules, with the reasons, stand for the inferences, each for the one in its place.
abbrev pub StandForAll : List Fact → List Rule → List Reason → List Inference → Type 0
StandForAll facts [] [] [] = Unit {0}
StandForAll facts (rule ∷ rules) (reason ∷ reasons) (inference ∷ inferences) =
    StandsFor facts rule reason inference × StandForAll facts rules reasons inferences
StandForAll facts _ _ _ = ⊥
