mod Played
mod Printed
mod Timed
