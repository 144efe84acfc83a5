use Rattle.fam_cache.proofs.sending.send_run.Goals as goal

pub returns-in-Ok-clause-sent : goal.returns-in-Ok-clause-sent
returns-in-Ok-clause-sent g c = record {
  lines = c.asked_run-lines.result.now;
  sent = record { asked = c.asked_run-lines.ensures.asked; cleans = c.clean_lines.ensures.cache; sends = c.in-Ok.ensures.written };
}
