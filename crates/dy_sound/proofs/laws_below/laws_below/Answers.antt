use Rattle.dy_sound.proofs.laws_below.laws_below.Goals as goal

pub returns : goal.returns
returns c = record {
  no_label_closes = c.more_corruptions_close_no_label.ensures.among;
  corruptions_stay = c.corruptions_of_longer_traces.ensures.contained;
  labels_stay = c.made_nonces_keep_their_labels.ensures.value;
  nonces_stay = c.made_nonces_keep_their_labels.ensures.still_made;
  covered_is_open = c.covered_versions_are_open.ensures;
  meet_implies = c.what_a_meet_implies.ensures;
  no_weaker_than_itself = c.weaker_knowledge_of_a_handler_is_ordered.ensures.itself;
  weaker_onward = c.weaker_knowledge_of_a_handler_is_ordered.ensures.onward;
  prefixes_interleave = c.prefixes_are_interleavings.ensures.prefix;
}
