mod Bumps
