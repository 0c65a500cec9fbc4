use Rattle.std.proofs.Common.{refl, rules}
use Rattle.office_program.proofs.program.do_task.Goals as goal

-- what the tasks on files print
pub returns-in-Ok-clause-does : goal.returns-in-Ok-clause-does
returns-in-Ok-clause-does g c =
    let done = c.in-Ok.ensures.done in
    rw c.in-Check.is (
      rw c.quiet.ensures refl,
      record {
        printed = record {
          instance = done.instance;
          solution = done.solution;
          of_first = search rules;
          of_second = search rules;
          texts = rw c.quiet.ensures done.texts;
        };
        reads = search rules;
      },
    )

pub returns-in-Ok-check_as-clause-does : goal.returns-in-Ok-check_as-clause-does
returns-in-Ok-check_as-clause-does g c =
    rw (
      c.in-CheckAs.is,
      c.quiet-in-Ok-check_as.ensures,
      ← c.deref-in-CheckAs.ensures,
      ← c.deref-in-CheckAs-2.ensures,
    ) (
      refl,
      record {
        printed = c.in-Ok-check_as.ensures.printed;
        reads = record { unread = c.in-Ok-check_as.ensures.unread; rest = refl };
      },
    )

pub returns-in-Ok-list_places-clause-does : goal.returns-in-Ok-list_places-clause-does
returns-in-Ok-list_places-clause-does g c =
    rw (
      c.in-Places.is,
      c.quiet-in-Ok-list_places.ensures,
      ← c.deref-in-Places.ensures,
      ← c.deref-in-Places-2.ensures,
    ) (
      refl,
      record {
        printed = c.in-Ok-list_places.ensures.listed;
        reads = record { unread = c.in-Ok-list_places.ensures.unread; rest = refl };
      },
    )

pub returns-in-Ok-compare-clause-does : goal.returns-in-Ok-compare-clause-does
returns-in-Ok-compare-clause-does g c =
    rw (
      c.in-Compare.is,
      c.quiet-in-Ok-compare.ensures,
      ← c.deref-in-Compare.ensures,
      ← c.deref-in-Compare-2.ensures,
      ← c.deref-in-Compare-3.ensures,
    ) (
      refl,
      record {
        printed = c.in-Ok-compare.ensures.compared;
        reads = record { unread = c.in-Ok-compare.ensures.unread; rest = refl };
      },
    )

-- a task on files failed, and a front of what it prints is left
pub returns-in-Err-clause-fails : goal.returns-in-Err-clause-fails
returns-in-Err-clause-fails g c = record {
  of = rw (c.in-Check.is, ← c.deref.ensures, ← c.deref-in-Check.ensures) c.in-Err.ensures.fault;
  leaves = rw (c.in-Check.is, ← c.deref.ensures, ← c.deref-in-Check.ensures) (record {
    unprinted = c.in-Err.ensures.unwritten;
    front = c.in-Err.ensures.front;
    reads = record { unread = c.in-Err.ensures.unread; rest = refl };
  });
}

pub returns-in-Err-check_as-clause-fails : goal.returns-in-Err-check_as-clause-fails
returns-in-Err-check_as-clause-fails g c = record {
  of = rw (c.in-CheckAs.is, ← c.deref-in-CheckAs.ensures, ← c.deref-in-CheckAs-2.ensures)
      c.in-Err-check_as.ensures.fault;
  leaves = rw (c.in-CheckAs.is, ← c.deref-in-CheckAs.ensures, ← c.deref-in-CheckAs-2.ensures) (record {
    unprinted = c.in-Err-check_as.ensures.unwritten;
    front = c.in-Err-check_as.ensures.front;
    reads = record { unread = c.in-Err-check_as.ensures.unread; rest = refl };
  });
}

pub returns-in-Err-list_places-clause-fails : goal.returns-in-Err-list_places-clause-fails
returns-in-Err-list_places-clause-fails g c = record {
  of = rw (c.in-Places.is, ← c.deref-in-Places.ensures, ← c.deref-in-Places-2.ensures)
      c.in-Err-list_places.ensures.fault;
  leaves = rw (c.in-Places.is, ← c.deref-in-Places.ensures, ← c.deref-in-Places-2.ensures) (record {
    unprinted = c.in-Err-list_places.ensures.unwritten;
    front = c.in-Err-list_places.ensures.front;
    reads = record { unread = c.in-Err-list_places.ensures.unread; rest = refl };
  });
}

pub returns-in-Err-compare-clause-fails : goal.returns-in-Err-compare-clause-fails
returns-in-Err-compare-clause-fails g c = record {
  of = rw (
    c.in-Compare.is,
    ← c.deref-in-Compare.ensures,
    ← c.deref-in-Compare-2.ensures,
    ← c.deref-in-Compare-3.ensures,
  ) c.in-Err-compare.ensures.fault;
  leaves = rw (
    c.in-Compare.is,
    ← c.deref-in-Compare.ensures,
    ← c.deref-in-Compare-2.ensures,
    ← c.deref-in-Compare-3.ensures,
  ) (record {
    unprinted = c.in-Err-compare.ensures.unwritten;
    front = c.in-Err-compare.ensures.front;
    reads = record { unread = c.in-Err-compare.ensures.unread; rest = refl };
  });
}

-- what becomes of the database of the words
pub returns-in-Ok-load-clause-does : goal.returns-in-Ok-load-clause-does
returns-in-Ok-load-clause-does g c =
    let loaded = c.in-Ok-load.ensures.loaded in
    rw (
      c.in-Load.is,
      c.quiet-in-Ok-load.ensures,
      ← c.deref-in-Load.ensures,
      ← c.deref-in-Load-2.ensures,
    ) (
      refl,
      record {
        text = loaded.0;
        of = loaded.1;
        printed = loaded.2;
        stored = loaded.3;
        rest = refl;
      },
    )

pub returns-in-Err-load-clause-fails : goal.returns-in-Err-load-clause-fails
returns-in-Err-load-clause-fails g c = record {
  of = rw (c.in-Load.is, ← c.deref-in-Load-2.ensures) c.in-Err-load.ensures.fault;
  leaves = rw (c.in-Load.is, ← c.deref-in-Load.ensures, ← c.deref-in-Load-2.ensures) (record {
    unprinted = c.in-Err-load.ensures.unwritten;
    front = c.in-Err-load.ensures.front;
    left = c.in-Err-load.ensures.leaves;
    rest = refl;
  });
}

pub returns-in-Err-export-clause-fails : goal.returns-in-Err-export-clause-fails
returns-in-Err-export-clause-fails g c = record {
  of = rw c.in-Export.is c.in-Err-export.ensures.fault;
  leaves = rw (c.in-Export.is, ← c.deref-in-Export.ensures) (record {
    unprinted = c.in-Err-export.ensures.unwritten;
    front = c.in-Err-export.ensures.front;
    left = c.in-Err-export.ensures.leaves;
    rest = refl;
  });
}

pub returns-in-Ok-open_and_serve-clause-does : goal.returns-in-Ok-open_and_serve-clause-does
returns-in-Ok-open_and_serve-clause-does g c =
    rw (c.in-Serve.is, ← c.deref-in-Serve.ensures) (record {
      printed = c.in-Ok-open_and_serve.ensures.served;
      served = c.in-Ok-open_and_serve.ensures.serves;
      rest = refl;
    })

pub returns-in-Err-open_and_serve-clause-fails : goal.returns-in-Err-open_and_serve-clause-fails
returns-in-Err-open_and_serve-clause-fails g c = record {
  of = rw c.in-Serve.is c.in-Err-open_and_serve.ensures.fault;
  leaves = rw (c.in-Serve.is, ← c.deref-in-Serve.ensures) (record {
    port = c.in-Err-open_and_serve.ensures.port;
    served = c.in-Err-open_and_serve.ensures.unserved;
    rest = refl;
  });
}

-- the lines about the work of the task may be written
pub load-requires-clause-loads : goal.load-requires-clause-loads
load-requires-clause-loads g c =
    let works = rw c.in-Load.is at c.requires.works in rw c.deref-in-Load-2.ensures works.0

pub load-requires-clause-opens : goal.load-requires-clause-opens
load-requires-clause-opens g c =
    let works = rw c.in-Load.is at c.requires.works in rw c.deref-in-Load.ensures works.1

pub open_and_serve-requires-clause-new : goal.open_and_serve-requires-clause-new
open_and_serve-requires-clause-new g c =
    let works = rw c.in-Serve.is at c.requires.works in rw c.deref-in-Serve.ensures works.0

pub open_and_serve-requires-clause-opens : goal.open_and_serve-requires-clause-opens
open_and_serve-requires-clause-opens g c =
    let works = rw c.in-Serve.is at c.requires.works in rw c.deref-in-Serve.ensures works.1

pub open_and_serve-requires-clause-publishes : goal.open_and_serve-requires-clause-publishes
open_and_serve-requires-clause-publishes g c =
    let works = rw c.in-Serve.is at c.requires.works in rw c.deref-in-Serve.ensures works.2

pub export-requires : goal.export-requires
export-requires g c = record {
  opens = let works = rw c.in-Export.is at c.requires.works in rw c.deref-in-Export.ensures works;
}
