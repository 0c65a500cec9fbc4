use Rattle.std.proofs.lemmas.Result.{on_ok_weaker}
use Rattle.office_replies.proofs.candidates.send_exam.Goals as goal

pub returns : goal.returns
returns g c =
    let exam = rw c.get.ensures at c.in_ok-serialize.ensures in
    let period = rw c.period_of.ensures at c.in_ok-send_number.ensures in
    let room = rw c.room_of.ensures at c.in_ok-send_number-2.ensures in
    let seat = c.in_ok-send_number-3.ensures in
    let state = rw c.state_text.ensures at c.in_ok-str.ensures in
    on_ok_weaker c.end_map.result (λ ended. (
      _,
      c.in_ok-begin_map.ensures,
      (
        _,
        _,
        c.in_ok-key.ensures,
        c.in_ok-send_date.ensures,
        (
          _,
          _,
          c.in_ok-key-2.ensures,
          exam,
          (
            _,
            _,
            period.1,
            period.2,
            (
              _,
              _,
              room.1,
              room.2,
              (
                _,
                _,
                seat.1,
                seat.2,
                (
                  _,
                  _,
                  c.in_ok-key-3.ensures,
                  c.in_ok-send_start.ensures,
                  (_, _, c.in_ok-key-4.ensures, state, ended),
                ),
              ),
            ),
          ),
        ),
      ),
    )) c.end_map.ensures
