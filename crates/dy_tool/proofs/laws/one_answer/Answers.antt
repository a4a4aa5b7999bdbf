use Rattle.dy_tool.proofs.OneInput.{ReadingLaws}
use Rattle.dy_tool.proofs.OneDue.{Laws, one_status_due, one_text_due_with, one_run_due_with}
use Rattle.dy_tool.proofs.laws.one_answer.Goals as goal

pub returns : goal.returns
returns c =
    let reading : ReadingLaws = record {
      one_file = c.one_file.ensures;
      file_or_bad = c.one_parse.ensures.not_bad;
      file_or_over = c.one_parse.ensures.not_over;
      bad_or_over = c.one_parse.ensures.apart;
      one_bad = c.one_parse.ensures.one_line;
      one_over = c.one_parse.ensures.one_limit;
    } in
    let laws : Laws = record {
      reading = reading;
      untyped = c.one_refused_place.ensures.untyped;
      one_serial = c.one_serial_interleaving.ensures;
      one_known = c.one_report_for_a_trace.ensures.known;
      one_breaches = c.one_report_for_a_trace.ensures.breaches;
      place = c.one_refused_place.ensures.place;
    } in
    record {
      status = λ commands words bytes status other text other_text due also. one_status_due laws bytes commands words status other text other_text due also;
      text = λ commands words bytes status text other is due also. one_text_due_with laws bytes commands words status text other is due also;
      play = λ commands words bytes text other is due also. one_run_due_with laws bytes commands words text other is due also;
    }
