use Rattle.step.proofs.count_advance.Goals as goal

pub returns : goal.returns
returns c =
    let k = c.args.counters in
    λ i. record { handled = k.processed_events; emitted = k.emitted_events; remote = k.remote_events; rounds = c.saturating_add.ensures i; null_messages = c.saturating_add-2.ensures i; worker_count = k.worker_count }
