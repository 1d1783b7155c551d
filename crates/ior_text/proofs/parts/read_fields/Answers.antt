use Rattle.std.proofs.lemmas.Result.{err_from_is_err_and}
use Rattle.ior_text.proofs.Bodies.{Versioned, no_host, no_port, no_object_key, no_components, parts_read}
use Rattle.ior_text.proofs.parts.read_fields.Goals as goal

pub returns-in_err-text-clause-bad : goal.returns-in_err-text-clause-bad
returns-in_err-text-clause-bad c =
    let version : Versioned c.args.reader.now c.in_ok-major.major c.in_ok-minor.minor c.octet-2.new.self =
    record { behind_major = c.octet.new.self; major_read = c.in_ok-major.ensures.ok; minor_read = c.in_ok-minor.ensures.ok } in
    let passed = err_from_is_err_and c.from_residual-in_err-text.result c.from_residual-in_err-text.ensures.1 in
    rw (passed.1, passed.2) (no_host _ _ _ _ _ version c.in_err-text.ensures.refused)

pub returns-in_err-port-clause-bad : goal.returns-in_err-port-clause-bad
returns-in_err-port-clause-bad c =
    let version : Versioned c.args.reader.now c.in_ok-major.major c.in_ok-minor.minor c.octet-2.new.self =
    record { behind_major = c.octet.new.self; major_read = c.in_ok-major.ensures.ok; minor_read = c.in_ok-minor.ensures.ok } in
    let passed = err_from_is_err_and c.from_residual-in_err-port.result c.from_residual-in_err-port.ensures.1 in
    rw (passed.1, passed.2) (λ _. no_port _ _ _ _ _ _ _ version c.in_ok-text.ensures.ok c.in_err-port.ensures.refused)

pub returns-in_err-octets-clause-bad : goal.returns-in_err-octets-clause-bad
returns-in_err-octets-clause-bad c =
    let version : Versioned c.args.reader.now c.in_ok-major.major c.in_ok-minor.minor c.octet-2.new.self =
    record { behind_major = c.octet.new.self; major_read = c.in_ok-major.ensures.ok; minor_read = c.in_ok-minor.ensures.ok } in
    let passed = err_from_is_err_and c.from_residual-in_err-octets.result c.from_residual-in_err-octets.ensures.1 in
    rw (passed.1, passed.2) (no_object_key _ _ _ _ _ _ _ _ _ version c.in_ok-text.ensures.ok c.in_ok-port.ensures.ok c.in_err-octets.ensures.refused)

pub returns-in_err-components-clause-bad : goal.returns-in_err-components-clause-bad
returns-in_err-components-clause-bad c =
    let version : Versioned c.args.reader.now c.in_ok-major.major c.in_ok-minor.minor c.octet-2.new.self =
    record { behind_major = c.octet.new.self; major_read = c.in_ok-major.ensures.ok; minor_read = c.in_ok-minor.ensures.ok } in
    let passed = err_from_is_err_and c.from_residual-in_err-components.result c.from_residual-in_err-components.ensures.1 in
    rw (passed.1, passed.2)
    (λ other. no_components _ _ _ _ _ _ _ _ _ _ version c.in_ok-text.ensures.ok c.in_ok-port.ensures.ok c.in_ok-octets.ensures.ok
    (c.in_err-components.ensures.bad other))

pub returns-clause-parts : goal.returns-clause-parts
returns-clause-parts c =
    let version : Versioned c.args.reader.now c.in_ok-major.major c.in_ok-minor.minor c.octet-2.new.self =
    record { behind_major = c.octet.new.self; major_read = c.in_ok-major.ensures.ok; minor_read = c.in_ok-minor.ensures.ok } in
    parts_read _ _ _ _ _ _ _ _ version c.in_ok-text.ensures.ok c.from_vec-host.ensures c.in_ok-port.ensures.ok c.in_ok-octets.ensures.ok c.from_vec-key.ensures
    c.in_ok-components.ensures.components
