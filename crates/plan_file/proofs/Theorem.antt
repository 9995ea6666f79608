-- The theorem's parts.
use Rattle.plan_file.specs.Theorem.{PlanFiles}
use Rattle.plan_file.proofs.Files.{decode_encode, encode_decode, widths}
use Rattle.plan_file.proofs.Events.{few_events}
use Rattle.plan_file.proofs.Examples.{examples}

pub plan_files : PlanFiles
plan_files = record { few_events = few_events; widths = widths; decode_encode = decode_encode; encode_decode = encode_decode; examples = examples }
