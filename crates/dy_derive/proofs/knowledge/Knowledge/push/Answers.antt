use Rattle.std.proofs.Common.{◌++◌, ◌∷◌, [], ◌∙◌, ℕ, List, length, drop, refl, arith, ap}
use Rattle.dy_term.specs.Terms as terms
use Rattle.dy_chains.specs.declared.rules.Rule.{Rule}
use Rattle.dy_entry.specs.Meaning.{entry_of}
use Rattle.dy_derive.specs.declared.reasons.Reason.{Reason}
use Rattle.dy_derive.specs.Facts.{inferences_of_entry}
use Rattle.dy_derive.specs.MirrorGiven.{Gives}
use Rattle.dy_derive.specs.MirrorKnowledge.{AreAny}
use Rattle.dy_derive.specs.MirrorNonces.{nonces_in}
use Rattle.dy_derive.proofs.DerivableDecided.{derived_nonce_is_had}
use Rattle.dy_derive.proofs.GrownDeductions.{grows_unchanged}
use Rattle.dy_derive.proofs.LogValues.{had_is_derived}
use Rattle.dy_derive.proofs.Refusals.{on_err}
use Rattle.dy_derive.proofs.StandsMore.{nonces_kept, stands_more}
use Rattle.dy_derive.proofs.knowledge.Knowledge.push.Goals as goal

pub returns-in_err-given-clause-err : goal.returns-in_err-given-clause-err
returns-in_err-given-clause-err c =
    on_err c.from_residual.result _ (λ T stands.
    nonces_kept c.args.self.now _ T stands c.in_err-given.ensures.err c.args.self.now.in_log refl refl refl)

pub returns-in_err-reserve-clause-err : goal.returns-in_err-reserve-clause-err
returns-in_err-reserve-clause-err c =
    let inferences = inferences_of_entry c.args.self.now.entries (entry_of c.args.entry.now) in
    on_err c.from_residual-in_err-reserve.result _ (λ T stands.
    nonces_kept c.args.self.now _ T stands
    (grows_unchanged c.args.self.now.deductions c.given_by.new.self _ (Gives c.in_ok-given.given inferences) AreAny c.in_ok-given.ensures.ok
    (record { nodes = refl; chain = refl; reasons = refl }) (λ facts such. tt)) c.args.self.now.in_log refl c.in_err-reserve.ensures.items refl)

pub returns-in_err-add_rules-clause-err : goal.returns-in_err-add_rules-clause-err
returns-in_err-add_rules-clause-err c =
    let inferences = inferences_of_entry c.args.self.now.entries (entry_of c.args.entry.now) in
    let is = c.in_err-add_rules.ensures.err in
    on_err c.from_residual-in_err-add_rules.result _ (λ T stands.
    nonces_kept c.args.self.now _ T stands
    (grows_unchanged c.args.self.now.deductions c.given_by.new.self _ (Gives c.in_ok-given.given inferences) AreAny c.in_ok-given.ensures.ok
    (record { nodes = is.nodes; chain = is.chain; reasons = is.reasons }) (λ facts such. tt)) c.args.self.now.in_log refl c.in_ok-reserve.ensures.items refl)

pub push_nonces-requires-clause-room : goal.push_nonces-requires-clause-room
push_nonces-requires-clause-room c =
    let same = ap length c.in_ok-add_rules.ensures.ok.nodes in
    omega (arith, same, c.log_len-steps.ensures.within, c.log_len-steps.ensures.value, c.len.ensures.len, c.saturating_sub-room.ensures, c.in_ok-reserve.ensures.ok, c.in_ok-reserve.ensures.len)

pub returns-clause-ok : goal.returns-clause-ok
returns-clause-ok c =
    let old = c.args.self.now in
    let mid = c.given_by.new.self in
    let made = c.in_ok-given.given in
    let new = c.add_rules.new.self in
    let entry = entry_of c.args.entry.now in
    let adds = c.in_ok-add_rules.ensures.ok in
    λ T stands.
    stands_more old _ mid made entry T stands old.in_log c.in_ok-given.ensures.ok
    (record {
      nodes = adds.nodes;
      then_rules = adds.then_rules ∙ ap (λ (rules : List Rule). mid.chain.chain.rules ++ rules) c.as_slice.ensures.value;
      then_reasons = adds.then_reasons ∙ ap (λ (reasons : List Reason). mid.chain.reasons.items ++ reasons) c.as_slice-2.ensures.value;
      log = adds.log;
    }) c.log_len-steps.ensures.chain (grind (arith, c.in-Some.ensures)) c.log_len-steps.ensures.value
    (c.push_nonces.ensures ∙ ap (λ (nonces : List ℕ). nonces ++ nonces_in new.nodes.keys (drop old.seen new.chain.chain.log)) c.in_ok-reserve.ensures.items)
    (λ facts deduced index had.
    had_is_derived (T ++ entry ∷ []) new.nodes.keys facts new.chain.chain.rules new.chain.reasons.items new.chain.chain.log deduced.table deduced.rules
    c.log_len-steps.ensures.chain.log (terms.Nonce index) had)
    (λ facts deduced index derives.
    derived_nonce_is_had new (T ++ entry ∷ []) facts c.log_len-steps.ensures.chain (record { table = deduced.table; rules = deduced.rules }) index derives)
